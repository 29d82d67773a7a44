-- The preferred of several fingerprints.
use Rattle.std.proofs.lemmas.List.MinMax.{IsFirstBest-from_best_of, IsStrictWeakOrder-by_number}
use Rattle.str0m_sdp.proofs.Common.{arith, ◌≡◌, List, [], ◌∷◌, ◌++◌, filter_map, map, Option, Some, Result, refl, ap, ◌∙◌, cons_option}
use Rattle.str0m_sdp.proofs.Common.{option_or, IfOk, best_of, get_or_default}
use Rattle.str0m_sdp.specs.Common.{first}
use Rattle.str0m_sdp.specs.session.PreferredFingerprint.{is_preferred, IsPreferred, better_fingerprint_of, preferred}
use Rattle.str0m_sdp.specs.session.PreferredFingerprint.{first_filled_fingerprints}
use Rattle.str0m_values.specs.Fingerprint.{hash_preference_of}
use Rattle.str0m_values.specs.declared.fingerprint.Fingerprint.{Fingerprint}

-- one more after the others
pub preferred_more : (prints : List Fingerprint) (print : Fingerprint)
    → preferred (prints ++ print ∷ []) ≡ Some (better_fingerprint_of (preferred prints) print)
preferred_more [] print = refl
preferred_more (first ∷ prints) print = ap (λ best. Some best) (along first prints)
  where
    along : (best : Fingerprint) (prints : List Fingerprint) → best_of is_preferred best (prints ++ print ∷ [])
        ≡ better_fingerprint_of (Some (best_of is_preferred best prints)) print
    along best [] = refl
    along best (next ∷ prints) = along (better_fingerprint_of (Some best) next) prints

-- what `best_of` finds is the first of those to which no other is preferred
pub preferred_is : (prints : List Fingerprint) → IsPreferred prints (preferred prints)
preferred_is [] = refl
preferred_is (print ∷ prints) =
    let best = IsFirstBest-from_best_of (IsStrictWeakOrder-by_number (λ (f : Fingerprint). hash_preference_of f.hash_func)) print prints in
    (best.0, best.1, get_or_default (print ∷ prints) best.0 _ print best.1.0 ∙ best.2)

-- where one list holds none, the preferred is that of the others
pub preferred_of_first : (prints : List Fingerprint) (lists : List (List Fingerprint))
    → option_or (preferred prints) (preferred (first_filled_fingerprints lists)) ≡ preferred (first_filled_fingerprints (prints ∷ lists))
preferred_of_first prints lists = grind arith

first_fingerprint_or : {Y : Type 0} (o : Option Y) (ys : List Y) → first (cons_option o ys) ≡ option_or o (first ys)
first_fingerprint_or o ys = grind arith

-- the first list that holds anything is the first that has a preferred one
pub preferred_among : {X : Type 0} (prints : X → List Fingerprint) (xs : List X)
    → first (filter_map (λ x. preferred (prints x)) xs) ≡ preferred (first_filled_fingerprints (map prints xs))
preferred_among prints [] = refl
preferred_among prints (x ∷ xs) = grind (arith, first_fingerprint_or, preferred_among prints xs, preferred_of_first)

-- a copy of the preferred one
pub preferred_copied : {E : Type 0} (r : Result (Option Fingerprint) E) (found : Option Fingerprint) (prints : List Fingerprint)
    → IfOk r (λ copy. copy ≡ found) → found ≡ preferred prints → IfOk r (IsPreferred prints)
preferred_copied r found prints same is = grind (arith, preferred_is)
