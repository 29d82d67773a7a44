-- Numbers at the front of lines, before a space.
use Rattle.str0m_signal.proofs.Common.{◌≡◌, ◌≢◌, ◌<◌, ◌≤◌, ◌+◌, ◌-◌, ℕ, List, take, drop, get_or, Option, Some}
use Rattle.str0m_signal.proofs.Common.{◌>>=◌, num}
use Rattle.str0m_signal.proofs.Common.{refl, sym, ap, ◌∙◌, arith, take-append-drop}
use Rattle.str0m_signal.proofs.Common.{strip, cut, strip_at, AllDigits}
use Rattle.str0m_signal.proofs.Common.{digits_value}
use Rattle.str0m_signal.specs.form.FormReading.{two_read}
use Rattle.str0m_signal.specs.line.FrontReading.{number_and_rest_read, number_in_front_read}
use Rattle.str0m_values.proofs.CutsNearLaws.{cut_first, cuts_written_fits, eighteen_digits}
use Rattle.str0m_values.specs.Cuts.{IsFirstCutAt, IsWrittenAs, LacksCutAt}

-- ---- a number before a space

-- four digits and one more fit 64 bits
pub few_digits : (digits : List ℕ) (i : ℕ) → AllDigits 10 (take i digits) → i < 4 → digits_value 10 (take i digits) < 1000000000000000000
few_digits digits i h lt = eighteen_digits digits i h (omega (arith, lt))

-- a number in front of a space, and what follows the space
pub number_cut : (limit : ℕ) (text : List ℕ) (n at : ℕ) → IsFirstCutAt 32 text at → IsWrittenAs (take at text) n → n ≤ limit
    → Some (n, drop (at + 1) text) ≡ number_and_rest_read limit text
number_cut limit text n at first written le =
    let from_start : at - 0 ≡ at = omega arith in
    let cut_is : Some (take at text, drop (at + 1) text) ≡ cut 32 text = rw from_start at (cut_first 32 text at first) in
    let read = cuts_written_fits limit (take at text) n written le in
    rw (← cut_is, ← read) refl

-- and what stands from the space on
pub number_ahead : (limit : ℕ) (text : List ℕ) (n at : ℕ) → IsFirstCutAt 32 text at → IsWrittenAs (take at text) n → n ≤ limit
    → Some (n, drop at text) ≡ number_in_front_read limit text
number_ahead limit text n at first written le =
    let from_start : at - 0 ≡ at = omega arith in
    let cut_is : Some (take at text, drop (at + 1) text) ≡ cut 32 text = rw from_start at (cut_first 32 text at first) in
    let read = cuts_written_fits limit (take at text) n written le in
    let rest : strip (take at text) text ≡ Some (drop at text) =
    ap (strip (take at text)) (sym (take-append-drop at text)) ∙ strip_at (take at text) (drop at text) in
    rw (← cut_is, ← read, rest) refl

-- one more byte that is no space
pub lacks_space_more : (text : List ℕ) (i : ℕ) → LacksCutAt 32 text i → get_or text i 0 ≢ 32 → LacksCutAt 32 text (i + 1)
lacks_space_more text i h other = λ k lt. grind (arith, h k)

-- ---- what a number is followed by

-- a number and a text with a space between them
pub two_by_number : {B : Type 0} (limit : ℕ) (g : List ℕ → Option B) (text : List ℕ)
    → two_read 32 (num limit) g text ≡ (number_and_rest_read limit text >>= λ found. g found.1 >>= λ value. Some (found.0, value))
two_by_number limit g text = grind arith
