-- Sets of payload types as the bits of a number.
use Rattle.std.proofs.lemmas.Nat.{pow_below, pow_pos}
use Rattle.std.proofs.lemmas.Nat.Bits.{and_pow}
use Rattle.str0m_formats.proofs.Common.{◌≡◌, ◌==◌, ℕ, ◌+◌, ◌-◌, ◌*◌, ◌%◌, ◌^◌, ◌<◌, ◌≤◌, ◌⊎◌, inl, inr, Bool, true, false, not, ◌||◌, ◌&&◌}
use Rattle.str0m_formats.proofs.Common.{bit_or}
use Rattle.str0m_formats.proofs.Common.{List, ◌++◌, [], Some, None, find, refl, sym, ap, ◌∙◌, arith, lit<, range_with_len, option_or}
use Rattle.str0m_formats.proofs.Common.{bit_at, eq-eqb, ne_eqb, bit_at-lt, bit_at_set_same, bit_at_set_other, bit_at-zero, or_lt, or-false}
use Rattle.str0m_formats.proofs.Common.{or-true, find-append, nat_tests, min, bit_not, trailing_zeros, w128, cases_eq, bit_at_and}
use Rattle.str0m_formats.proofs.Common.{bit_at_or, bit_at_not, bit_at_above, bit_at-trailing_zeros, bit_at_cat_low, bit_at_mask_inside}
use Rattle.str0m_formats.proofs.Common.{bit_and}
use Rattle.str0m_formats.proofs.round.ClaimedRanges.{find-range_skips, find-range_cut, find-range_here}
use Rattle.str0m_formats.specs.round.ClaimMask.{bit_set, least_claim_bit}
use Rattle.str0m_formats.specs.round.Claimed.{free, claim_order}

-- ---- one type

-- a set with one bit more has that type, and else what it had
set_bit : (n k t : ℕ) → k < 128 → bit_set (bit_or n (1 * 2 ^ k % 2 ^ 128)) t ≡ (bit_set n t || (k == t))
set_bit n k t h = go (cases_eq t k) where
  go : (t ≡ k) ⊎ (t ≡ k → ⊥) → bit_set (bit_or n (1 * 2 ^ k % 2 ^ 128)) t ≡ (bit_set n t || (k == t))
  go (inl e) =
      ap (bit_set (bit_or n (1 * 2 ^ k % 2 ^ 128))) e
      ∙ eq-eqb _ 1 (bit_at_set_same w128 n k h)
      ∙ sym (or-true (bit_set n t))
      ∙ ap (λ b. bit_set n t || b) (sym (eq-eqb k t (sym e)))
  go (inr ne) =
      ap (λ x. x == 1) (bit_at_set_other w128 n k h t ne)
      ∙ sym (or-false (bit_set n t))
      ∙ ap (λ b. bit_set n t || b) (sym (ne_eqb k t (λ e. ne (sym e))))

-- what a set has in common with one type
common_bit : (n k : ℕ) → k < 128 → bit_and n (1 * 2 ^ k % 2 ^ 128) ≡ bit_at n k * 2 ^ k
common_bit n k h =
    let one : 1 * 2 ^ k % 2 ^ 128 ≡ 2 ^ k = omega (arith, pow_below k 128 h) in
    rw one (and_pow n k)

-- it is nothing exactly where the type isn't in the set
pub bit_missing : (n k : ℕ) → k < 128 → bit_and n (1 * 2 ^ k % 2 ^ 128) ≡ 0 → bit_set n k ≡ false
bit_missing n k h none = go (cases_eq (bit_at n k) 0) where
  go : (bit_at n k ≡ 0) ⊎ (bit_at n k ≡ 0 → ⊥) → bit_set n k ≡ false
  go (inl e) = ap (λ x. x == 1) e
  go (inr ne) =
      let one : bit_at n k ≡ 1 = omega (arith, ne, bit_at-lt n k) in
      let whole : bit_and n (1 * 2 ^ k % 2 ^ 128) ≡ 1 * 2 ^ k = common_bit n k h ∙ ap (λ x. x * 2 ^ k) one in
      absurd (omega (arith, none, whole, pow_pos k))

pub bit_there : (n k : ℕ) → k < 128 → (bit_and n (1 * 2 ^ k % 2 ^ 128) ≡ 0 → ⊥) → bit_set n k ≡ true
bit_there n k h some = go (cases_eq (bit_at n k) 0) where
  go : (bit_at n k ≡ 0) ⊎ (bit_at n k ≡ 0 → ⊥) → bit_set n k ≡ true
  go (inl e) =
      let nothing : bit_and n (1 * 2 ^ k % 2 ^ 128) ≡ 0 * 2 ^ k = common_bit n k h ∙ ap (λ x. x * 2 ^ k) e in
      absurd (some (omega (arith, nothing)))
  go (inr ne) =
      let one : bit_at n k ≡ 1 = omega (arith, ne, bit_at-lt n k) in
      ap (λ x. x == 1) one

-- so has a set to which the type is added, where it may be there
pub claimed_bit : (n k t : ℕ) → k < 128
    → bit_set (bit_or n (1 * 2 ^ k % 2 ^ 128)) t ≡ (bit_set n t || ((bit_and n (1 * 2 ^ k % 2 ^ 128) == 0) && (k == t)))
claimed_bit n k t h = set_bit n k t h ∙ go (cases_eq (bit_and n (1 * 2 ^ k % 2 ^ 128)) 0) where
  go : (bit_and n (1 * 2 ^ k % 2 ^ 128) ≡ 0) ⊎ (bit_and n (1 * 2 ^ k % 2 ^ 128) ≡ 0 → ⊥)
      → (bit_set n t || (k == t)) ≡ (bit_set n t || ((bit_and n (1 * 2 ^ k % 2 ^ 128) == 0) && (k == t)))
  go (inl none) = rw none refl
  go (inr some) = grind (arith, bit_there n k h some, ne_eqb, cases_eq)

-- no type from 128 on
pub no_bit : (n t : ℕ) → n < 2 ^ 128 → 128 ≤ t → bit_set n t ≡ false
no_bit n t h l = ap (λ x. x == 1) (bit_at_above n 128 t h l)

-- the types in neither of two sets
free_bit : (a b i : ℕ) → bit_or a b < 2 ^ 128 → i < 128 → bit_set (bit_not w128 (bit_or a b)) i ≡ not (bit_set a i || bit_set b i)
free_bit a b i h l = grind (arith, bit_at_not w128 (bit_or a b) i h l, bit_at_or a b i, bit_at-lt b i, bit_at-lt a i, nat_tests)

-- ---- the least type

-- it is where the zeros end
pub least_claim_bit-trailing : (n : ℕ) → 0 < n → n < 2 ^ 128 → Some (trailing_zeros w128 n) ≡ least_claim_bit n
unfolding least_claim_bit
least_claim_bit-trailing n h l =
    let ends = bit_at-trailing_zeros w128 n h l in
    let k = trailing_zeros w128 n in
    let e : 0 + k ≡ k = omega arith in
    sym (find-range_skips (bit_set n) 128 k 0 (omega (arith, ends.0)) (λ i a b. ap (λ x. x == 1) (ends.2 i (omega arith)))
    ∙ find-range_here (bit_set n) (0 + k) 128 (omega (arith, ends.0)) (ap (bit_set n) e ∙ eq-eqb (bit_at n k) 1 ends.1)
    ∙ ap (λ x. Some x) e)

pub least_claim_bit-zero : least_claim_bit 0 ≡ None
unfolding least_claim_bit
least_claim_bit-zero = refl

-- a mask of d ones, the least of them at lo
abbrev IsBitRun : ℕ → ℕ → ℕ → Type 0
IsBitRun mask lo d = (mask ≡ (2 ^ d - 1) * 2 ^ lo + 0) × (mask ≡ 2 ^ (lo + d) - 2 ^ lo) × (mask < 2 ^ (lo + d)) × (lo + d ≤ 128)

-- the least type under it is the first of a range that passes
least_masked : (bits mask : ℕ) (q : ℕ → Bool) (lo d : ℕ) → IsBitRun mask lo d → ((i : ℕ) → i < 128 → bit_set bits i ≡ q i)
    → least_claim_bit (bit_and bits mask) ≡ find q (range_with_len lo d)
unfolding least_claim_bit
least_masked bits mask q lo d run agree =
    let p = bit_set (bit_and bits mask) in
    let begin : 0 + lo ≡ lo = omega arith in
    find-range_skips p 128 lo 0 (omega arith) (λ i a b. out i (below i (omega arith)))
    ∙ find-range_cut p q 128 d (0 + lo) (omega arith) (λ i a b. kept i (inside i (omega arith) (omega arith)) ∙ agree i (omega arith))
    (λ i a b. out i (bit_at_above mask (lo + d) i run.2 (omega arith)))
    ∙ ap (λ k. find q (range_with_len k d)) begin where
      below : (i : ℕ) → i < lo → bit_at mask i ≡ 0
      below i l = ap (λ m. bit_at m i) run.0 ∙ bit_at_cat_low (2 ^ d - 1) lo 0 i l ∙ bit_at-zero i

      inside : (i : ℕ) → lo ≤ i → i < lo + d → bit_at mask i ≡ 1
      inside i a b = ap (λ m. bit_at m i) run.1 ∙ bit_at_mask_inside lo (lo + d) i a b

      min_zero : (n : ℕ) → min n 0 ≡ 0
      min_zero n = omega arith

      min_one : (n : ℕ) → n < 2 → min n 1 ≡ n
      min_one n h = omega arith

      out : (i : ℕ) → bit_at mask i ≡ 0 → bit_set (bit_and bits mask) i ≡ false
      out i e = ap (λ x. x == 1) (bit_at_and bits mask i ∙ ap (min (bit_at bits i)) e ∙ min_zero (bit_at bits i))

      kept : (i : ℕ) → bit_at mask i ≡ 1 → bit_set (bit_and bits mask) i ≡ bit_set bits i
      kept i e = ap (λ x. x == 1) (bit_at_and bits mask i ∙ ap (min (bit_at bits i)) e ∙ min_one (bit_at bits i) (bit_at-lt bits i))

-- ---- the first free type

mask_find_four : (p : ℕ → Bool) (a b c d : List ℕ)
    → option_or (option_or (option_or (find p a) (find p b)) (find p c)) (find p d) ≡ find p (a ++ (b ++ (c ++ (d ++ []))))
mask_find_four p a b c d = grind (arith, find-append)

-- it is the least type in neither set under the mask of the first range that has one
pub free-from_masks : (a b bits : ℕ) → bits ≡ bit_not w128 (bit_or a b) → a < 2 ^ 128 → b < 2 ^ 128
    → option_or (option_or (option_or (least_claim_bit (bit_and bits 0xffff_ffff_0000_0000_0000_0000_0000_0000))
    (least_claim_bit (bit_and bits 0xffff_0000_0000_0000_0000_0000))) (least_claim_bit (bit_and bits 0x6000_0000_0000_0000_0000)))
    (least_claim_bit (bit_and bits 0xff_ffff_fff8_0000_0000)) ≡ free (λ t. bit_set a t || bit_set b t)
unfolding claim_order
free-from_masks a b bits e ha hb =
    rw (
      least_masked bits 0xffff_ffff_0000_0000_0000_0000_0000_0000 q 96 32 (refl, refl, lit< tt, omega arith) agree,
      least_masked bits 0xffff_0000_0000_0000_0000_0000 q 80 16 (refl, refl, lit< tt, omega arith) agree,
      least_masked bits 0x6000_0000_0000_0000_0000 q 77 2 (refl, refl, lit< tt, omega arith) agree,
      least_masked bits 0xff_ffff_fff8_0000_0000 q 35 37 (refl, refl, lit< tt, omega arith) agree,
    )
    (mask_find_four q (range_with_len 96 32) (range_with_len 80 16) (range_with_len 77 2) (range_with_len 35 37)) where
      q : ℕ → Bool
      q t = not (bit_set a t || bit_set b t)

      agree : (i : ℕ) → i < 128 → bit_set bits i ≡ q i
      agree i l = ap (λ x. bit_set x i) e ∙ free_bit a b i (or_lt 128 a b ha hb) l
