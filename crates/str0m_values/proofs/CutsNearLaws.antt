-- What going over the bytes of a field finds: a cut, and a number.
use Rattle.std.proofs.Math.Nat.{pow-le-pow_right}
use Rattle.std.proofs.lemmas.Int.Digits.{digits_value-lt}
use Rattle.str0m_values.proofs.Common.{◌≡◌, ℕ, zero, suc, ◌<◌, ◌≤◌, ◌+◌, ◌-◌, List, [], ◌∷◌, length, take, drop, Some, None, refl, sym, ap}
use Rattle.str0m_values.proofs.Common.{arith, AllDigits, digits_value, without_leading_plus, eq-eqb, ne_eqb, numerals_by_value, add-one}
use Rattle.str0m_values.proofs.Common.{slice_range, tells_digits, digits_value_short, length-take, lit<}
use Rattle.str0m_values.proofs.CutLaws.{cut_none, LacksCut-by_index}
use Rattle.str0m_values.proofs.CutsNumLaws.{num_reads}
use Rattle.str0m_values.specs.Cuts.{LacksCutAt, IsFirstCutAt, IsTheOnly, IsWrittenAs, IsWrittenIn, cut, before_cut, num}
use Rattle.str0m_values.specs.CutsParts.{IsNumber}

cut_at_first : (c : ℕ) (text : List ℕ) (i : ℕ) → IsFirstCutAt c text i → Some (take i text, drop (suc i) text) ≡ cut c text
cut_at_first c [] i h = absurd (omega (arith, h.0))
cut_at_first c (x ∷ xs) zero h = rw (eq-eqb x c h.1) refl
cut_at_first c (x ∷ xs) (suc i) h =
    rw (ne_eqb x c (h.2 0 (omega arith)))
    (ap (before_cut x) (cut_at_first c xs i (omega (arith, h.0), h.1, λ k lt. h.2 (suc k) (omega arith))))

-- a cut at the first place
pub cut_first : (c : ℕ) (text : List ℕ) (i : ℕ) → IsFirstCutAt c text i → Some (slice_range text 0 i, drop (i + 1) text) ≡ cut c text
cut_first c text i h =
    let from_start : i - 0 ≡ i = omega arith in
    rw (add-one i, from_start) (cut_at_first c text i h)

pub cut_nowhere : (c : ℕ) (text : List ℕ) → LacksCutAt c text (length text) → None ≡ cut c text
cut_nowhere c text h = sym (cut_none c text (LacksCut-by_index c text h))

-- eighteen digits and one more fit 64 bits
pub eighteen_digits : (digits : List ℕ) (i : ℕ) → AllDigits 10 (take i digits) → i ≤ 18
    → digits_value 10 (take i digits) < 1000000000000000000
eighteen_digits digits i h le =
    grind (
      arith,
      digits_value_short (numerals_by_value (AllDigits 10) tells_digits) (take i digits) 18 h,
      numerals_by_value (AllDigits 10) tells_digits,
      tells_digits,
      length-take i digits,
    )

cuts_written_signless : (digits : List ℕ) (n : ℕ) → IsWrittenAs digits n → without_leading_plus digits ≡ digits
cuts_written_signless digits n h = grind arith

pub cuts_written_fits : (limit : ℕ) (text : List ℕ) (n : ℕ) → IsWrittenAs text n → n ≤ limit → Some n ≡ num limit text
cuts_written_fits limit text n h le = grind (arith, cuts_written_signless, num_reads)

-- seven hexadecimal digits and one more fit 32 bits
pub seven_hex_digits : (digits : List ℕ) (i : ℕ) → AllDigits 16 (take i digits) → i ≤ 7 → digits_value 16 (take i digits) < 268435456
seven_hex_digits digits i h le =
    let short : length (take i digits) ≤ 7 = omega (arith, le, length-take i digits) in
    omega (arith, digits_value-lt 16 (take i digits) h, pow-le-pow_right {n = 16} (lit< tt) short)

hex_written_signless : (digits : List ℕ) (n : ℕ) → IsWrittenIn 16 digits n → without_leading_plus digits ≡ digits
hex_written_signless digits n h = grind arith

-- what digits alone write is the only number in the text
pub hex_written_only : (text : List ℕ) (n : ℕ) → IsWrittenIn 16 text n → n ≤ 4294967295 → IsTheOnly (IsNumber 16 4294967295 text) (Some n)
hex_written_only text n h le = grind (arith, hex_written_signless)
