-- Which row of a list is chosen, and which remote row a row is matched with.
use Rattle.std.specs.Borrow.{Bor}
use Rattle.std.specs.Prelude.{◌≡◌, ◌==◌, ◌<◌, ◌≤◌, ℕ, Bool, true, false, ◌&&◌, not, Option, Some, None, List, [], ◌∷◌, ◌++◌, if◌then◌else◌, IfSome, All, find, nat_le, nat_lt, option_map}
use Rattle.str0m_formats.specs.codec.Codec.{CodecContent, codec_content, events, is_amr_wb}
use Rattle.str0m_formats.specs.declared.row.payload_params.PayloadParams.{PayloadParams}
use Rattle.str0m_formats.specs.round.Claimed.{TypeSet}
use Rattle.str0m_formats.specs.round.MatchScore.{score}
use Rattle.str0m_formats.specs.round.Narrowing.{telephone_max}

-- a row is the last of the rows of greatest score
pub record IsBestChoice (points : PayloadParams → Option ℕ) (rows : List PayloadParams) (best : PayloadParams) : Type 0 where
  pub before : List PayloadParams
  pub after : List PayloadParams
  pub most : ℕ
  pub split : rows ≡ before ++ best ∷ after
  pub has_most : points best ≡ Some most
  pub before_at_most : All (λ row. IfSome (points row) (λ n. n ≤ most)) before
  pub after_below : All (λ row. IfSome (points row) (λ n. n < most)) after

-- the choice among rows: the last of greatest score, none where none has a score
abbrev pub IsChoice : (PayloadParams → Option ℕ) → List PayloadParams → Option PayloadParams → Type 0
IsChoice points rows (Some best) = IsBestChoice points rows best
IsChoice points rows None = All (λ row. points row ≡ None) rows

-- the best row so far, with its score, as it is seen
abbrev pub seen_best_choice : Option (Bor PayloadParams × ℕ) → Option (PayloadParams × ℕ)
seen_best_choice so_far = option_map (λ it. (it.0.now, it.1)) so_far

-- the best row so far, with its score, once one row more was seen: one of the same score takes its place
abbrev pub better_row : Option (PayloadParams × ℕ) → PayloadParams → Option ℕ → Option (PayloadParams × ℕ)
better_row so_far row None = so_far
better_row None row (Some n) = Some (row, n)
better_row (Some (best, most)) row (Some n) = if nat_lt n most then Some (best, most) else Some (row, n)

-- the same once one row more was seen that stands before the others: it goes before one of less score alone
abbrev pub earlier_row : Option (PayloadParams × ℕ) → PayloadParams → Option ℕ → Option (PayloadParams × ℕ)
earlier_row so_far row None = so_far
earlier_row None row (Some n) = Some (row, n)
earlier_row (Some (best, most)) row (Some n) = if nat_le n most then Some (best, most) else Some (row, n)

-- the score of a row with another
abbrev pub choice_points_with : PayloadParams → PayloadParams → Option ℕ
choice_points_with theirs row = score row.spec theirs.spec

-- the type that a remote row is answered with: none where no row matches; where the remote receives, its own type, which it
-- demands, else that of the choice
pub record IsMatchedType (rows : List PayloadParams) (theirs : PayloadParams) (receives : Bool) (answer : Option ℕ) : Type 0 where
  pub ours : Option PayloadParams
  pub is_choice : IsChoice (choice_points_with theirs) rows ours
  pub answered : answer ≡ option_map (λ row. if receives then theirs.pt else row.pt) ours

-- whether a row is of telephone events, under this payload type
abbrev pub has_events : CodecContent → Bool
has_events events = true
has_events _ = false

abbrev pub is_event_row : ℕ → PayloadParams → Bool
is_event_row pt row = row.pt == pt && has_events (codec_content row.spec.codec)

-- the highest event of the first row of telephone events under a payload type
abbrev pub highest_event : ℕ → List PayloadParams → Option ℕ
highest_event pt rows = option_map (λ row. telephone_max row.spec.format) (find (is_event_row pt) rows)

-- the closure, first in the state f, refused each item in order and is then in the state g
abbrev pub RefusedAllChoices : {F X : Type 0} → (F → Bor X → Bool → F → Type 0) → F → List X → F → Type 0
RefusedAllChoices step f [] g = g ≡ f
RefusedAllChoices {F} {X} step f (x ∷ xs) g = (h : F) × ((b : Bor X) × (b.now ≡ x) × step f b false h) × RefusedAllChoices step h xs g

-- the first item that the closure accepted, where it refused each before it
abbrev pub FirstAccepted : {F X : Type 0} → (F → Bor X → Bool → F → Type 0) → F → List X → Option X → Type 0
FirstAccepted {F} step f xs None = (g : F) × RefusedAllChoices step f xs g
FirstAccepted {F} {X} step f xs (Some x) = (before after : List X) × (g h : F) × (xs ≡ before ++ x ∷ after) × RefusedAllChoices step f before g × ((b : Bor X) × (b.now ≡ x) × step g b true h)

-- the score of a remote row for a row. For an AMR-WB row that is open while the remote receives,
-- a remote row whose primary type is taken is left aside
unfoldable pub choice_points_for : TypeSet → Bool → PayloadParams → PayloadParams → Option ℕ
choice_points_for taken receives row theirs =
    if is_amr_wb row.spec.codec && (not row.locked && (receives && taken theirs.pt)) then None
    else score row.spec theirs.spec
