-- Rounds of sections, one after another.
use Rattle.str0m_sdp.proofs.{all_mapped, map_more}
use Rattle.str0m_sdp.specs.section.SectionDirection.{section_direction}
use Rattle.str0m_sdp.specs.section.SectionRows.{rows}
use Rattle.str0m_signal.proofs.Common.{arith, ◌≡◌, ◌<◌, ◌+◌, ◌++◌, ℕ, Bool, cond, List, [], ◌∷◌, Option, Some, None, Result, All, IfOk}
use Rattle.str0m_signal.proofs.Common.{IfSome, length, take, get_or, map, filter_map, option_map, option_to_list, sym, subst, All-nil}
use Rattle.str0m_signal.proofs.Common.{All-cons, All-head, All-tail, PayloadParams, Round, is_media, HasBoundedRows, MediaLine, OnErr}
use Rattle.str0m_signal.proofs.Common.{map-append, IsBounded}
use Rattle.str0m_signal.specs.session.Negotiation.{AreRoundsOf, brought_by_round, brought_by_section}
use Rattle.str0m_values.specs.declared.direction.Direction.{Direction}

round_map_found : {Y Z : Type 0} (g : Y → Z) (found : Option Y) → map g (option_to_list found) ≡ option_to_list (option_map g found)
round_map_found g found = grind arith

-- what is found of one item more is appended
pub one_round_added : {X Y Z : Type 0} (f : X → Option Z) (g : Y → Z) (xs : List X) (i : ℕ) (x : X) (ys more : List Y) (found : Option Y)
    → i < length xs → x ≡ get_or xs i x → option_map g found ≡ f x → more ≡ ys ++ option_to_list found
    → map g ys ≡ filter_map f (take i xs) → map g more ≡ filter_map f (take (i + 1) xs)
one_round_added {X} {Y} {Z} f g xs i x ys more found lt is reads appended before = grind (arith, map-append, round_map_found, map_more)

-- what a call keeps where it succeeds stands where it fails and changes nothing
pub round_kept_or_same : {A E S : Type 0} (P : S → Type 0) (Q : A → Type 0) (result : Result A E) (old new : S)
    → ((answer : A) → Q answer → P old → P new) → IfOk result Q → OnErr result (new ≡ old) → P old → P new
round_kept_or_same P Q result old new keeps ok err before = grind arith

-- ---- what the rounds of sections bring

-- the rows that are brought keep to their ranges
abbrev BringsBoundedRows : List PayloadParams × Direction → Type 0
BringsBoundedRows (remote, direction) = All IsBounded remote

when_media : (b : Bool) (m : MediaLine) → HasBoundedRows m
    → IfSome (cond b (Some (rows m, section_direction m.attrs)) None) BringsBoundedRows
when_media b m bounded = grind arith

-- what holds of all images holds of the image of each
rounds_of_images : {X Y : Type 0} (P : Y → Type 0) (f : X → Y) (xs : List X) → All P (map f xs) → All (λ x. P (f x)) xs
rounds_of_images P f [] all = All-nil (λ x. P (f x))
rounds_of_images P f (x ∷ xs) all = All-cons (λ x. P (f x)) x xs (All-head P (f x) (map f xs) all)
    (rounds_of_images P f xs (All-tail P (f x) (map f xs) all))

-- where the rows of each section keep to their ranges, those of each round do
pub rounds_bounded : (sections : List MediaLine) (rounds : List Round) → AreRoundsOf sections rounds → All HasBoundedRows sections
    → All (λ round. All IsBounded round.remote.items) rounds
rounds_bounded sections rounds are bounded =
    rounds_of_images BringsBoundedRows brought_by_round rounds
    (subst (All BringsBoundedRows) (sym are)
    (all_mapped HasBoundedRows BringsBoundedRows brought_by_section (λ m. when_media (is_media m.typ) m) sections bounded))
