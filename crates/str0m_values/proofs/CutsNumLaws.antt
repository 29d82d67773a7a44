-- What the reading of a number gives.
use Rattle.str0m_values.proofs.Common.{◌≡◌, ℕ, ◌<◌, ◌≤◌, ◌^◌, Bool, true, List, [], ◌∷◌, length, Some, None, refl}
use Rattle.str0m_values.proofs.Common.{sym, arith, IsNumeral, AllDigits, digits_value, without_leading_plus, ltb-true, lt-ltb, le-leb}
use Rattle.str0m_values.proofs.Common.{leb-true, and_parts, numerals_by_value, ◌≢◌, digit_value, eq-eqb, ne_eqb, cases_eq}
use Rattle.str0m_values.proofs.Common.{all_ascii_digits, and_from, IsNumeralModel, tells_all_ascii_digits}
use Rattle.str0m_values.specs.Cuts.{IsTheOnly, is_rest, is_numeral, num, when}
use Rattle.str0m_values.specs.CutsParts.{IsNum, Lacks, IsRest}

cuts_own_numerals : IsNumeralModel (λ ds. all_ascii_digits ds ≡ true) (digits_value 10)
cuts_own_numerals = numerals_by_value _ tells_all_ascii_digits

pub cuts_numeral_true : (ds : List ℕ) → IsNumeral 10 ds → is_numeral ds ≡ true
cuts_numeral_true ds h = and_from (is_rest ds) (all_ascii_digits ds) (lt-ltb 0 (length ds) h.0) (cuts_own_numerals.from ds h.1)

pub cuts_numeral_from : (ds : List ℕ) → is_numeral ds ≡ true → IsNumeral 10 ds
cuts_numeral_from ds e =
    let p = and_parts (is_rest ds) (all_ascii_digits ds) e in
    (ltb-true 0 (length ds) p.0, cuts_own_numerals.to ds p.1)

pub cuts_when_some : {A : Type 0} (test : Bool) (x y : A) → when test x ≡ Some y → (test ≡ true) × (x ≡ y)
cuts_when_some test x y e = grind arith

pub num_when_true : {A : Type 0} (test : Bool) (x : A) → test ≡ true → when test x ≡ Some x
num_when_true test x e = rw e refl

pub num_found : (limit : ℕ) (text : List ℕ) (n : ℕ) → num limit text ≡ Some n → IsNum limit text n
num_found limit text n e = grind (arith, cuts_when_some, and_parts, leb-true, cuts_numeral_from)

pub num_reads : (limit : ℕ) (text : List ℕ) (n : ℕ) → IsNum limit text n → num limit text ≡ Some n
num_reads limit text n h = grind (arith, and_from, cuts_numeral_true, le-leb, num_when_true)

pub num_none : (limit : ℕ) (text : List ℕ) → ((n : ℕ) → IsNum limit text n → ⊥) → num limit text ≡ None
num_none limit text none = grind (arith, num_found)

-- the reading function reads what the relation says, both ways
pub num_only : (limit : ℕ) (text : List ℕ) → IsTheOnly (IsNum limit text) (num limit text)
num_only limit text = grind (arith, num_reads, num_found)

pub cuts_parsed_ok : (k limit : ℕ) (text : List ℕ) (x : ℕ)
    → (IsNumeral 10 (without_leading_plus text) × (digits_value 10 (without_leading_plus text) < 2 ^ k))
    × (x ≡ digits_value 10 (without_leading_plus text)) → x ≤ limit → Some x ≡ num limit text
cuts_parsed_ok k limit text x h le = sym (num_reads limit text x (record { numeral = h.0.0; value = sym h.1; fits = le }))

pub cuts_parsed_err : (k limit : ℕ) (text : List ℕ)
    → ((IsNumeral 10 (without_leading_plus text) × (digits_value 10 (without_leading_plus text) < 2 ^ k)) → ⊥) → limit < 2 ^ k
    → None ≡ num limit text
cuts_parsed_err k limit text h lt = sym (num_none limit text (λ n is. h (is.numeral, omega (arith, is.fits, is.value))))

-- ---- what a number lacks

-- digits hold no character that isn't one
pub digits_lack : (c : ℕ) (ds : List ℕ) → 10 ≤ digit_value c → AllDigits 10 ds → Lacks c ds
digits_lack c [] far h = tt
digits_lack c (x ∷ xs) far h = grind (arith, digits_lack c xs far h.1)

pub number_lacks : (c : ℕ) (text : List ℕ) → 10 ≤ digit_value c → c ≢ 43 → IsNumeral 10 (without_leading_plus text) → Lacks c text
number_lacks c text far other h = grind (arith, cases_eq, eq-eqb, digits_lack, ne_eqb)

pub num_rest_true : (text : List ℕ) → IsRest text → is_rest text ≡ true
num_rest_true text h = lt-ltb 0 (length text) h
