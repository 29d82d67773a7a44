-- Two lists whose items go together, place by place.
use Rattle.str0m_values.proofs.Common.{◌<◌, ℕ, zero, suc, List, [], ◌∷◌, ◌++◌, length, get_or, arith, AllZip}

-- one more item on both sides
pub AllZip-push : {A B : Type 0} (R : A → B → Type 0) (xs : List A) (ys : List B) (x : A) (y : B) → AllZip R xs ys → R x y
    → AllZip R (xs ++ x ∷ []) (ys ++ y ∷ [])
AllZip-push R [] [] x y h r = (r, tt)
AllZip-push R [] (b ∷ ys) x y h r = absurd h
AllZip-push R (a ∷ xs) [] x y h r = absurd h
AllZip-push R (a ∷ xs) (b ∷ ys) x y h r = (h.0, AllZip-push R xs ys x y h.1 r)

-- what stands at a place has its fellow
pub AllZip-at : {A B : Type 0} (R : A → B → Type 0) (xs : List A) (ys : List B) (k : ℕ) (d : A) → AllZip R xs ys → k < length xs
    → (y : B) × R (get_or xs k d) y
AllZip-at R [] ys k d h lt = absurd (omega arith)
AllZip-at R (a ∷ xs) [] k d h lt = absurd h
AllZip-at R (a ∷ xs) (b ∷ ys) zero d h lt = (b, h.0)
AllZip-at R (a ∷ xs) (b ∷ ys) (suc k) d h lt = AllZip-at R xs ys k d h.1 (omega arith)
