-- A set of modes that a text names has one at least, and none above 8.
use Rattle.str0m_formats.proofs.Common.{◌≡◌, ◌<◌, ◌≤◌, ◌+◌, ◌-◌, ◌*◌, ◌%◌, ◌^◌, ℕ, List, [], length, get_or, sym, ap, ◌∙◌, inl, inr, arith}
use Rattle.str0m_formats.proofs.Common.{bit_at, bit_and, slice_split, cases_lt, and_pow, bit_at-lt, bit_at-zero, same_from_bits, ◌/◌, ◌==◌}
use Rattle.str0m_formats.proofs.Common.{get_or_default, length-slice_split, bit_at_cat_high}
use Rattle.str0m_formats.proofs.format.FormatParamModes.{bit_at_set}
use Rattle.str0m_formats.specs.format.FormatParam.{IsMask, IsModeSet}
use Rattle.str0m_formats.specs.row.PlainRowBounds.{AreModes}

-- a number without the bits from the ninth on
mode_mask_below_ninth : (n : ℕ) → ((k : ℕ) → 9 ≤ k → bit_at n k ≡ 0) → n ≤ 511
mode_mask_below_ninth n clear =
    let high = n / 512 in
    let low = n % 512 in
    let whole : n ≡ high * 2 ^ 9 + low = omega arith in
    let none : high ≡ 0 = same_from_bits high 0 (λ j.
    let at : j + 9 - 9 ≡ j = omega arith in
    sym (ap (λ (i : ℕ). bit_at high i) at) ∙ sym (bit_at_cat_high high 9 low (j + 9) (omega arith) (omega arith))
    ∙ ap (λ (m : ℕ). bit_at m (j + 9)) (sym whole) ∙ clear (j + 9) (omega arith) ∙ sym (bit_at-zero j)) in
    omega arith

-- a set of modes has one at least, and none above 8
mask_within : (pieces : List (List ℕ)) (mask : ℕ) → 0 < length pieces → IsMask pieces mask → AreModes mask
mask_within pieces mask some is = (positive, mode_mask_below_ninth mask clear)
  where
    first : List ℕ
    first = get_or pieces 0 []

    positive : 0 < mask
    positive =
        let named = is.modes 0 [] some in
        let set = (is.bits named.0).1 (0, first, some, get_or_default pieces 0 first [] some, named.1) in
        elim (cases_lt 0 mask) [
          | inl above ↦ above
          | inr zero ↦
              let nothing : mask ≡ 0 = omega arith in
              absurd (set (ap (λ (m : ℕ). bit_and m (2 ^ named.0)) nothing ∙ and_pow 0 named.0
              ∙ ap (λ (b : ℕ). b * 2 ^ named.0) (bit_at-zero named.0) ∙ omega arith))
        ]

    clear : (k : ℕ) → 9 ≤ k → bit_at mask k ≡ 0
    clear k high =
        elim (cases_lt (bit_at mask k) 1) [
          | inl zero ↦ omega arith
          | inr one ↦
              let any = (is.bits k).0 (bit_at_set mask k (omega (arith, bit_at-lt mask k))) in
              absurd (omega (arith, any.4.fits))
        ]

pub modes_within : (text : List ℕ) (mask : ℕ) → IsModeSet text mask → AreModes mask
unfolding IsModeSet
modes_within text mask is =
    mask_within (slice_split (λ b. b == 44) text) mask (omega (arith, length-slice_split (λ b. b == 44) text)) is
