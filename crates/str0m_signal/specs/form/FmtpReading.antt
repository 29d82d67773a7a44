-- Reading of an fmtp line as functions.
use Rattle.std.specs.Prelude.{◌≡◌, ◌≢◌, ◌<◌, ◌≤◌, ◌||◌, ℕ, zero, suc, Bool, true, false, get_or, List, [], ◌∷◌, Option, Some, None, codes, length, if◌then◌else◌, ◌==◌}
use Rattle.str0m_formats.specs.declared.format.format_param.FormatParam.TheVariants.{BareRange, BarePtList, Unknown}
use Rattle.str0m_formats.specs.format.PairsReading.{params_read}
use Rattle.str0m_sdp.specs.declared.label.TheConstants as label
use Rattle.str0m_signal.specs.Prelude.{FormatParam, before, cut, is_rest, lacks, num, strip, when, ◌<|>◌, ◌>>=◌}
use Rattle.str0m_signal.specs.form.FormReading.{behind, digits_read, two_read, parted_read}
use Rattle.str0m_values.specs.Cuts.{before_cut}

-- the value of an fmtp pair, which ends at `;`, space or tab, and what follows it
abbrev pub fmtp_value_read : List ℕ → Option (List ℕ × List ℕ)
fmtp_value_read text = do
  value ← Some (before 9 (before 32 (before 59 text)))
  filled ← when (is_rest value) value
  rest ← strip filled text
  Some (filled, rest)

-- whether a value ends at the character
abbrev pub ends_value : ℕ → Bool
ends_value x = x == 59 || x == 32 || x == 9

-- a value ends at none of the first n characters
abbrev pub NoneEnds : List ℕ → ℕ → Type 0
NoneEnds text n = (k : ℕ) → k < n → ends_value (get_or text k 0) ≡ false

-- a value ends at the n-th character or at the end of the text, and at none before
abbrev pub IsValueEnd : List ℕ → ℕ → Type 0
IsValueEnd text n = (n ≤ length text) × NoneEnds text n × (n < length text → ends_value (get_or text n 0) ≡ true)

-- whether a character is a space or a tab
abbrev pub is_pair_blank : ℕ → Bool
is_pair_blank x = x == 32 || x == 9

-- the text without the spaces and tabs at its front
abbrev pub skip_pair_blanks : List ℕ → List ℕ
skip_pair_blanks [] = []
skip_pair_blanks (x ∷ xs) = if x == 32 then skip_pair_blanks xs else if x == 9 then skip_pair_blanks xs else x ∷ xs

-- what stands after a value and its blanks: the end, or `;` and more
abbrev pub fmtp_next_read : List ℕ → Option (Option (List ℕ))
fmtp_next_read text = if is_rest text then (strip (codes ";") text >>= λ t. Some (when (is_rest (skip_pair_blanks t)) (skip_pair_blanks t))) else Some
    None

abbrev pub fmtp_key_read : List ℕ → Option (List ℕ)
fmtp_key_read text = if lacks 32 text then (if lacks 9 text then when (is_rest text) text else None) else None

-- the parts before and after the first `=`, where no blank stands before it
abbrev pub key_cut : List ℕ → Option (List ℕ × List ℕ)
key_cut [] = None
key_cut (x ∷ xs) = if x == 61 then Some ([], xs) else if is_pair_blank x then None else before_cut x (key_cut xs)

-- neither `=` nor a blank is among the first n characters
abbrev pub NoneEndsKey : List ℕ → ℕ → Type 0
NoneEndsKey text n = (k : ℕ) → k < n → (get_or text k 0 ≢ 61) × (is_pair_blank (get_or text k 0) ≡ false)

-- a key, and what follows the `=` behind it
abbrev pub key_and_rest_read : List ℕ → Option (List ℕ × List ℕ)
key_and_rest_read text = cut 61 text >>= λ fields. fmtp_key_read fields.0 >>= λ key. Some (key, fields.1)

abbrev pub pair_read : List ℕ → Option ((List ℕ × List ℕ) × Option (List ℕ))
pair_read text = do
  fields ← cut 61 text
  key ← fmtp_key_read fields.0
  value ← fmtp_value_read fields.1
  next ← fmtp_next_read (skip_pair_blanks value.1)
  Some ((key, value.0), next)

-- one pair, and those that are read of what follows
abbrev pub fmtp_pairs_after : (List ℕ → Option (List (List ℕ × List ℕ))) → List ℕ × List ℕ → Option (List ℕ) → Option (List (List ℕ × List ℕ))
fmtp_pairs_after read pair None = Some (pair ∷ [])
fmtp_pairs_after read pair (Some more) = read more >>= λ pairs. Some (pair ∷ pairs)

-- the pairs of a text of fewer than n characters, where f reads the first and what follows it
unfoldable pub fmtp_pairs_at : (List ℕ → Option ((List ℕ × List ℕ) × Option (List ℕ))) → ℕ → List ℕ → Option (List (List ℕ × List ℕ))
fmtp_pairs_at f zero text = None
fmtp_pairs_at f (suc n) text = f text >>= λ p. fmtp_pairs_after (fmtp_pairs_at f n) p.0 p.1

abbrev pub fmtp_one_by_one : (List ℕ → Option ((List ℕ × List ℕ) × Option (List ℕ))) → List ℕ → Option (List (List ℕ × List ℕ))
fmtp_one_by_one f text = fmtp_pairs_at f (suc (length text)) text

abbrev pub pairs_read : List ℕ → Option (List (List ℕ × List ℕ))
pairs_read = fmtp_one_by_one pair_read

-- what the pairs of a text stand for
abbrev pub pair_values_read : List ℕ → Option (List FormatParam)
pair_values_read text = pairs_read text >>= λ pairs. Some (params_read pairs)

abbrev pub pairs_form_read : List ℕ → Option (List FormatParam)
pairs_form_read more = do
  text ← strip (codes " ") more
  pairs ← pairs_read (skip_pair_blanks text)
  Some (params_read pairs)

-- the first of two or more numbers that are parted by `/`
abbrev pub first_number_read : List ℕ → Option ℕ
first_number_read text = two_read 47 (num 255) (parted_read 47 (num 255)) text >>= λ numbers. Some numbers.0

-- where a range from 0 on ends
abbrev pub range_read : List ℕ → Option ℕ
range_read text = strip (codes "0-") text >>= digits_read 255

abbrev pub list_form_read : List ℕ → Option (List FormatParam)
list_form_read more = behind (codes " ") first_number_read more >>= λ first. Some (BarePtList first ∷ [])

abbrev pub range_form_read : List ℕ → Option (List FormatParam)
range_form_read more = behind (codes " ") range_read more >>= λ last. Some (BareRange last ∷ [])

-- what isn't pairs
abbrev pub bare_read : List ℕ → Option (List FormatParam)
bare_read more = list_form_read more <|> (range_form_read more <|> Some (Unknown ∷ []))

abbrev pub fmtp_values_read : List ℕ → Option (List FormatParam)
fmtp_values_read more = pairs_form_read more <|> bare_read more

abbrev pub fmtp_fields_read : List ℕ → Option (ℕ × List FormatParam)
fmtp_fields_read text = do
  body ← strip label.FMTP.now text
  pt ← num 127 (before 32 body)
  more ← strip (before 32 body) body
  values ← fmtp_values_read more
  Some (pt, values)
