-- How often a number stands in a list.
use Rattle.std.proofs.lemmas.List.Sums.{sum_by-append}
use Rattle.str0m_formats.proofs.Common.{◌≡◌, ◌==◌, ℕ, ◌+◌, ◌≤◌, Bool, true, false, not, ◌&&◌, ◌||◌, cond, List, [], ◌∷◌, ◌++◌, refl, sym}
use Rattle.str0m_formats.proofs.Common.{ap, ◌∙◌, arith, list_all, false≢true, and_parts, or_parts, not-true, eqb-true, zero-add}
use Rattle.str0m_formats.specs.round.Claimed.{has, type_times}

pub one_time_if : (b c : Bool) → b ≡ c → cond {A = ℕ} b 1 0 ≡ cond {A = ℕ} c 1 0
one_time_if b c e = ap (λ x. cond {A = ℕ} x 1 0) e

pub type_times-cons : (x : ℕ) (xs : List ℕ) (t : ℕ) → type_times (x ∷ xs) t ≡ cond {A = ℕ} (x == t) 1 0 + type_times xs t
type_times-cons x xs t = sum_by-append (λ y. cond (y == t) 1 0) (x ∷ []) xs
    ∙ ap (λ n. n + type_times xs t) (zero-add (cond {A = ℕ} (x == t) 1 0))

pub type_times-nil : (t : ℕ) → type_times [] t ≡ 0
type_times-nil t = refl

pub type_times-append : (xs ys : List ℕ) (t : ℕ) → type_times (xs ++ ys) t ≡ type_times xs t + type_times ys t
type_times-append xs ys t = sum_by-append (λ x. cond (x == t) 1 0) xs ys

pub type_times-none : (xs : List ℕ) (t : ℕ) → has xs t ≡ false → type_times xs t ≡ 0
type_times-none [] t h = refl
type_times-none (x ∷ xs) t h = grind (arith, or_parts, type_times-cons, one_time_if, type_times-none xs t)

pub type_times-some : (xs : List ℕ) (t : ℕ) → has xs t ≡ true → 1 ≤ type_times xs t
type_times-some [] t h = absurd (false≢true h)
type_times-some (x ∷ xs) t h = go (x == t) refl h (type_times-some xs t) where
  go : (b : Bool) → (x == t) ≡ b → (b || has xs t) ≡ true → (has xs t ≡ true → 1 ≤ type_times xs t) → 1 ≤ type_times (x ∷ xs) t
  go true e k rest = omega (arith, type_times-cons x xs t, one_time_if (x == t) true e)
  go false e k rest = let one = rest k in omega (arith, type_times-cons x xs t, one)

-- the test that no number stands in the list twice
abbrev pub all_claimed_apart : List ℕ → Bool
all_claimed_apart [] = true
all_claimed_apart (x ∷ xs) = not (has xs x) && all_claimed_apart xs

-- numbers that all pass a test, none of them twice: each stands there once at most, and not at all where it doesn't pass
pub claimed_once_within : (own : ℕ → Bool) (xs : List ℕ) → list_all own xs ≡ true → all_claimed_apart xs ≡ true → (t : ℕ)
    → type_times xs t ≤ cond {A = ℕ} (own t) 1 0
claimed_once_within own [] h d t = omega arith
claimed_once_within own (x ∷ xs) h d t =
    let h' = and_parts (own x) (list_all own xs) h in
    let d' = and_parts (not (has xs x)) (all_claimed_apart xs) d in
    go (x == t) refl h'.0 d'.0 (claimed_once_within own xs h'.1 d'.1 t)
  where
    go : (b : Bool) → (x == t) ≡ b → own x ≡ true → not (has xs x) ≡ true → type_times xs t ≤ cond {A = ℕ} (own t) 1 0
        → type_times (x ∷ xs) t ≤ cond {A = ℕ} (own t) 1 0
    go true e mine new rest =
        let same : x ≡ t = eqb-true x t e in
        let none : type_times xs t ≡ 0 = type_times-none xs t (ap (has xs) (sym same) ∙ not-true (has xs x) new) in
        let owned : cond {A = ℕ} (own t) 1 0 ≡ 1 = one_time_if (own t) true (ap own (sym same) ∙ mine) in
        omega (arith, type_times-cons x xs t, one_time_if (x == t) true e, none, owned)
    go false e mine new rest = omega (arith, type_times-cons x xs t, one_time_if (x == t) false e, rest)
