-- Cases of a table that are looked up by their texts, without regard to the case of ASCII letters.
use Rattle.str0m_formats.proofs.Common.{arith, ◌≡◌, ℕ, Bool, true, List, [], ◌∷◌, map, Option, IfSome, list_all, to_ascii_lowercase}
use Rattle.str0m_formats.proofs.Common.{bytes_eq, and_parts, find}

-- what is found stands in the list and passes
pub codec_find_passes : {A : Type 0} (own test : A → Bool) (xs : List A) → list_all own xs ≡ true
    → IfSome (find test xs) (λ x. (own x ≡ true) × (test x ≡ true))
codec_find_passes own test [] all = tt
codec_find_passes {A} own test (x ∷ xs) all = grind (arith, and_parts, codec_find_passes own test xs)

pub codec_if_some_map : {A : Type 0} {P Q : A → Type 0} (o : Option A) → IfSome o P → ((x : A) → P x → Q x) → IfSome o Q
codec_if_some_map o h then = grind arith

-- the case of which this is the text in lower case
abbrev pub codec_case_at : {A : Type 0} → (A → List ℕ) → List A → List ℕ → Option A
codec_case_at text rows low = find (λ row. bytes_eq low (map to_ascii_lowercase (text row))) rows
