-- The first number of a range that passes a test.
use Rattle.str0m_formats.proofs.Common.{zero, suc, ◌≡◌, ℕ, ◌+◌, ◌-◌, ◌<◌, ◌≤◌, Bool, true, false, cond, find, Option, Some, None, List}
use Rattle.str0m_formats.proofs.Common.{replicate, get_or, length, drop, refl, is_some, sym, ap, ◌∙◌, arith, true≢false, find-append}
use Rattle.str0m_formats.proofs.Common.{range_with_len, flat_map, at_drop_more}

-- where the next number fails, the search goes on after it
pub find-range_more : (p : ℕ → Bool) (t n : ℕ) → t < n → p t ≡ false
    → find p (range_with_len t (n - t)) ≡ find p (range_with_len (t + 1) (n - (t + 1)))
find-range_more p t n h e = let s : n - t ≡ suc (n - (t + 1)) = omega arith in rw s (rw e refl)

-- where it passes, it is the answer
pub find-range_here : (p : ℕ → Bool) (t n : ℕ) → t < n → p t ≡ true → find p (range_with_len t (n - t)) ≡ Some t
find-range_here p t n h e = let s : n - t ≡ suc (n - (t + 1)) = omega arith in rw s (rw e refl)

-- an empty range has none
pub find-range_none : (p : ℕ → Bool) (t n : ℕ) → n ≤ t → find p (range_with_len t (n - t)) ≡ None
find-range_none p t n h = let s : n - t ≡ 0 = omega arith in rw s refl

-- numbers that fail are passed over
pub find-range_skips : (p : ℕ → Bool) (n d s : ℕ) → s + d ≤ n → ((i : ℕ) → s ≤ i → i < s + d → p i ≡ false)
    → find p (range_with_len s (n - s)) ≡ find p (range_with_len (s + d) (n - (s + d)))
find-range_skips p n zero s h fails = let e : s + 0 ≡ s = omega arith in ap (λ k. find p (range_with_len k (n - k))) (sym e)
find-range_skips p n (suc d) s h fails = grind (arith, find-range_more, find-range_skips p n d (s + 1))

-- where a test fails after a range, only the range is searched; there it may be another test of the same answers
pub find-range_cut : (p q : ℕ → Bool) (n d s : ℕ) → s + d ≤ n → ((i : ℕ) → s ≤ i → i < s + d → p i ≡ q i)
    → ((i : ℕ) → s + d ≤ i → i < n → p i ≡ false) → find p (range_with_len s (n - s)) ≡ find q (range_with_len s d)
find-range_cut p q n zero s h same fails = grind (arith, find-range_skips p n (n - s) s, find-range_none p (s + (n - s)) n)
find-range_cut p q n (suc d) s h same fails =
    let long : n - s ≡ suc (n - (s + 1)) = omega arith in
    let rest =
    find-range_cut p q n d (s + 1) (omega arith) (λ i a b. same i (omega arith) (omega arith))
    (λ i a b. fails i (omega arith) b) in
    ap (λ k. find p (range_with_len s k)) long
    ∙ ap (λ b. cond b (Some s) (find p (range_with_len (s + 1) (n - (s + 1))))) (same s (omega arith) (omega arith))
    ∙ ap (λ o. cond (q s) (Some s) o) rest

-- a list of one value, read anywhere with that value as the default
pub claimed_get_or-replicate_same : {A : Type 0} (n : ℕ) (a : A) (i : ℕ) → get_or (replicate n a) i a ≡ a
claimed_get_or-replicate_same zero a i = refl
claimed_get_or-replicate_same (suc n) a zero = refl
claimed_get_or-replicate_same (suc n) a (suc i) = claimed_get_or-replicate_same n a i

-- what is found in a list of lists, from a place on: in the list there, or after it
pub claimed_find-flat_map_here : (p : ℕ → Bool) {A : Type 0} (f : A → List ℕ) (xs : List A) (i : ℕ) (d : A) (found : Option ℕ)
    → i < length xs
    → found ≡ find p (f (get_or xs i d)) → is_some found ≡ true → found ≡ find p (flat_map f (drop i xs))
claimed_find-flat_map_here p f xs i d None h e s = absurd (true≢false (sym s))
claimed_find-flat_map_here p f xs i d (Some y) h e s =
    sym (at_drop_more (λ ys. find p (flat_map f ys)) xs i d h ∙ find-append p (f (get_or xs i d)) (flat_map f (drop (i + 1) xs))
    ∙ rw (← e) refl)

pub claimed_find-flat_map_more : (p : ℕ → Bool) {A : Type 0} (f : A → List ℕ) (xs : List A) (i : ℕ) (d : A) (found : Option ℕ)
    → i < length xs
    → found ≡ find p (f (get_or xs i d)) → is_some found ≡ false → find p (flat_map f (drop (i + 1) xs)) ≡ find p (flat_map f (drop i xs))
claimed_find-flat_map_more p f xs i d (Some y) h e s = absurd (true≢false s)
claimed_find-flat_map_more p f xs i d None h e s =
    sym (at_drop_more (λ ys. find p (flat_map f ys)) xs i d h ∙ find-append p (f (get_or xs i d)) (flat_map f (drop (i + 1) xs))
    ∙ rw (← e) refl)
