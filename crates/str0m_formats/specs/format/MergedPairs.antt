-- Where keys stand among entries.
use Rattle.std.specs.BTreeMap.{BTreeMap, get_by}
use Rattle.std.specs.Borrow.{Bor}
use Rattle.std.specs.Cmp.Lexicographic.{slice_cmp}
use Rattle.std.specs.Ordering.{nat_cmp}
use Rattle.std.specs.Prelude.{◌≡◌, ℕ, zero, suc, Bool, true, false, List, [], ◌∷◌, Option, Some, None, bytes_eq}

-- the place is that of the first entry whose key passes the test; there is none where no key does
abbrev pub IsPairPlace : {K X : Type 0} → (K → Bool) → List (K × X) → Option ℕ → Type 0
IsPairPlace test [] None = Unit {0}
IsPairPlace test [] (Some i) = ⊥
IsPairPlace test (e ∷ es) None = (test e.0 ≡ false) × IsPairPlace test es None
IsPairPlace test (e ∷ es) (Some zero) = test e.0 ≡ true
IsPairPlace test (e ∷ es) (Some (suc i)) = (test e.0 ≡ false) × IsPairPlace test es (Some i)

-- the place of each key is known
abbrev pub HasPairPlaces : BTreeMap (Bor (List ℕ)) ℕ → List (List ℕ × List ℕ) → Type 0
HasPairPlaces places entries = (key : List ℕ) → IsPairPlace (bytes_eq key) entries (get_by (λ known. slice_cmp nat_cmp key known.now) places)
