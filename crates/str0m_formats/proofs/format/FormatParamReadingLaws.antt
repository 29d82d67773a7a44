-- Numbers after keys are read both ways.
use Rattle.str0m_formats.proofs.Common.{arith, ◌≡◌, ℕ, true, List, [], ◌∷◌, Option, refl, AllDigits, ltb-true, lt-ltb, le-leb, leb-true}
use Rattle.str0m_formats.proofs.Common.{and_parts, IsTheOnly, IsNumber, IsNum, num, cuts_when_some, num_when_true, only_read, and_from}
use Rattle.str0m_formats.proofs.Common.{cuts_reads_first}
use Rattle.str0m_formats.proofs.Common.{Reads}
use Rattle.str0m_formats.proofs.format.FormatParamOnly.{only_same}
use Rattle.str0m_formats.specs.format.FormatParam.{IsParamHexElseDecimal}
use Rattle.str0m_formats.specs.format.FormatParamReading.{all_param_digits, param_number_read, param_hex_read}
use Rattle.str0m_values.proofs.CandidateParts.{candidate_num_both}

param_digits_from : (radix : ℕ) (ds : List ℕ) → all_param_digits radix ds ≡ true → AllDigits radix ds
param_digits_from radix [] e = tt
param_digits_from radix (c ∷ cs) e = grind (arith, and_parts, ltb-true, param_digits_from radix cs)

param_digits_true : (radix : ℕ) (ds : List ℕ) → AllDigits radix ds → all_param_digits radix ds ≡ true
param_digits_true radix [] h = refl
param_digits_true radix (c ∷ cs) h = grind (arith, and_from, lt-ltb, param_digits_true radix cs h.1)

pub param_number_both : (radix limit : ℕ) → Reads (IsNumber radix limit) (param_number_read radix limit)
unfolding param_number_read
param_number_both radix limit =
    grind (
      arith,
      cuts_when_some,
      and_parts,
      leb-true,
      ltb-true,
      param_digits_from,
      and_from,
      lt-ltb,
      param_digits_true,
      le-leb,
      num_when_true,
    )

pub param_hex_both : Reads IsParamHexElseDecimal param_hex_read
unfolding param_hex_read
param_hex_both = cuts_reads_first (param_number_both 16 4294967295) (candidate_num_both 4294967295)

pub param_hex_is : (text : List ℕ) (answer : Option ℕ) → IsTheOnly (IsNumber 16 4294967295 text) answer
    → answer ≡ param_number_read 16 4294967295 text
param_hex_is text answer h = grind (
  arith,
  only_same answer (param_number_read 16 4294967295 text) h,
  only_read,
  param_number_both 16 4294967295,
)

pub param_num_is_only : (limit : ℕ) (text : List ℕ) (answer : Option ℕ) → answer ≡ num limit text → IsTheOnly (IsNum limit text) answer
param_num_is_only limit text answer e = only_read (candidate_num_both limit) text answer e
