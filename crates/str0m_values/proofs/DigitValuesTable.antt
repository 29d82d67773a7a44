-- The table of digits has the value of each byte.
use Rattle.str0m_values.proofs.Common.{◌≡◌, ◌==◌, ◌&&◌, ◌<◌, ◌+◌, ℕ, zero, suc, Bool, true, List, [], ◌∷◌, length, get_or, arith, refl}
use Rattle.str0m_values.proofs.Common.{and_parts}
use Rattle.str0m_values.proofs.Common.{digit_value, eqb-true, subst}
use Rattle.str0m_values.specs.declared.digit_values.TheConstants.{DIGIT_VALUES}

-- the items are the values of the bytes from the first on
abbrev are_digit_values : ℕ → List ℕ → Bool
are_digit_values first [] = true
are_digit_values first (x ∷ xs) = (x == digit_value first) && are_digit_values (suc first) xs

digit_value_there : (first : ℕ) (xs : List ℕ) → are_digit_values first xs ≡ true → (k byte : ℕ) → k < length xs → first + k ≡ byte
    → get_or xs k 0 ≡ digit_value byte
digit_value_there first [] h k byte lt e = absurd (omega (arith, lt))
digit_value_there first (x ∷ xs) h zero byte lt e = let same : first ≡ byte = omega (arith, e) in
    subst (λ b. x ≡ digit_value b) same
    (eqb-true x (digit_value first) (and_parts (x == digit_value first) (are_digit_values (suc first) xs) h).0)
digit_value_there first (x ∷ xs) h (suc k) byte lt e =
    digit_value_there (suc first) xs (and_parts (x == digit_value first) (are_digit_values (suc first) xs) h).1 k byte (omega (arith, lt))
    (omega (arith, e))

pub digit_values_at : (byte : ℕ) → byte < 256 → get_or DIGIT_VALUES byte 0 ≡ digit_value byte
digit_values_at byte lt = digit_value_there 0 DIGIT_VALUES refl byte byte lt (omega arith)
