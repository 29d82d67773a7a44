-- Reading of the line of a stream that may be restricted, as functions.
use Rattle.std.specs.Prelude.{ℕ, true, List, [], Option, Some, None, codes, if◌then◌else◌}
use Rattle.str0m_signal.specs.Prelude.{RestrictionId, cut, is_rest, num, strip, when, ◌<|>◌, ◌>>=◌}
use Rattle.str0m_signal.specs.declared.form.rid.RidLists.{RidLists as TheLists}
use Rattle.str0m_signal.specs.form.FmtpReading.{fmtp_value_read, skip_pair_blanks, fmtp_key_read, fmtp_one_by_one}
use Rattle.str0m_signal.specs.form.FormReading.{two_read, parted_read}
use Rattle.str0m_signal.specs.form.RidStreamName.{is_stream_name}

abbrev pub active_read : List ℕ → Option RestrictionId
active_read text = when (is_stream_name text) (record { 0 = text; 1 = true })

-- what stands after a value: the end, or `;` and more
abbrev pub next_read : List ℕ → Option (Option (List ℕ))
next_read text = if is_rest text then (strip (codes ";") text >>= λ more. Some (Some more)) else Some None

abbrev pub restriction_read : List ℕ → Option ((List ℕ × List ℕ) × Option (List ℕ))
restriction_read text = do
  fields ← cut 61 (skip_pair_blanks text)
  key ← fmtp_key_read fields.0
  value ← fmtp_value_read fields.1
  next ← next_read value.1
  Some ((key, value.0), next)

abbrev pub restrictions_read : List ℕ → Option (List (List ℕ × List ℕ))
restrictions_read = fmtp_one_by_one restriction_read

abbrev pub restricted_read : List ℕ → Option (List (List ℕ × List ℕ))
restricted_read text = if is_rest text then restrictions_read text else Some []

abbrev pub pts_read : List ℕ → Option (List ℕ)
pts_read text = parted_read 44 (num 127) text

-- the types, and the restrictions where the text was cut at a `;`
abbrev pub typed_after : List ℕ → Option (List ℕ × List ℕ) → Option (List ℕ × List (List ℕ × List ℕ))
typed_after text None = pts_read text >>= λ types. Some (types, [])
typed_after text (Some parts) = do
  types ← pts_read parts.0
  pairs ← restricted_read parts.1
  Some (types, pairs)

abbrev pub typed_read : List ℕ → Option (List ℕ × List (List ℕ × List ℕ))
typed_read text = typed_after text (cut 59 text)

-- the lists, where the text was cut after `pt=` if it begins so
abbrev pub rid_lists_after : List ℕ → Option (List ℕ) → Option (List ℕ × List (List ℕ × List ℕ))
rid_lists_after text None = restricted_read text >>= λ pairs. Some ([], pairs)
rid_lists_after text (Some typed) = typed_read typed

abbrev pub lists_read : List ℕ → Option (List ℕ × List (List ℕ × List ℕ))
lists_read text = rid_lists_after text (strip (codes "pt=") text)

abbrev pub more_read : List ℕ → Option (List ℕ × List (List ℕ × List ℕ))
more_read text = if is_rest text then (strip (codes " ") text >>= lists_read) else Some ([], [])

-- a word at the front, and what stands after it
abbrev pub rid_word_ahead : List ℕ → List ℕ → Option (List ℕ × List ℕ)
rid_word_ahead word text = strip word text >>= λ behind. Some (word, behind)

abbrev pub direction_read : List ℕ → Option (List ℕ × List ℕ)
direction_read text = rid_word_ahead (codes "send") text <|> rid_word_ahead (codes "recv") text

abbrev pub directed_read : List ℕ → Option (List ℕ × (List ℕ × List (List ℕ × List ℕ)))
directed_read text = do
  parts ← direction_read text
  lists ← more_read parts.1
  Some (parts.0, lists)

abbrev pub rid_fields_read : List ℕ → Option (RestrictionId × (List ℕ × (List ℕ × List (List ℕ × List ℕ))))
rid_fields_read text = two_read 32 active_read directed_read text

-- ---- the lists of a rid line, as lists

abbrev pub rid_lists_of : TheLists → List ℕ × List (List ℕ × List ℕ)
rid_lists_of lists = (lists.types, lists.restrictions)
