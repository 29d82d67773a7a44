-- What prints reads back.
use Rattle.std.specs.Char.{encode_utf8}
use Rattle.std.specs.Fmt.{digits}
use Rattle.std.specs.Str.{trim_end, chars, trim_start}
use Rattle.str0m_formats.proofs.Common.{◌≡◌, ◌≢◌, ◌≤◌, ◌<◌, ◌^◌, inl, ℕ, Bool, true, false, List, [], ◌∷◌, ◌++◌, get_or, replicate}
use Rattle.str0m_formats.proofs.Common.{refl, sym, ap, ◌∙◌, arith, lit<, decimal, AllDigits, digits_value, decimal_is_IsNumeral}
use Rattle.str0m_formats.proofs.Common.{digits_is_IsNumeral, length-append, false≢true, IsNumber, IsNum, IsRest, Option, Some, None}
use Rattle.str0m_formats.proofs.Common.{MatchOption, nat_le, inr, ◌==◌, ◌&&◌, and_parts, cases_lt, eqb-true, leb-true, zero, suc, IsNumeral}
use Rattle.str0m_formats.proofs.format.FormatParamLaws.{param_spelled, parsed_param_only}
use Rattle.str0m_formats.proofs.format.FormatParamModes.{modes_only}
use Rattle.str0m_formats.specs.declared.format.format_key.FormatKey.{FormatKey}
use Rattle.str0m_formats.specs.declared.format.format_param.FormatParam.{FormatParam}
use Rattle.str0m_formats.specs.format.FormatKey.{key_text}
use Rattle.str0m_formats.specs.format.FormatParam.{Kind, flag, number, hex, modes, exactly, anything, HeldParamValue, ReadsKind, kind}
use Rattle.str0m_formats.specs.format.FormatParam.{keyed}
use Rattle.str0m_formats.specs.format.FormatParam.{entry}
use Rattle.str0m_formats.specs.format.FormatParam.{IsParsedParam, IsPrintedParam, IsParamInRange, IsModeSet, param_flag_text}
use Rattle.str0m_formats.specs.format.FormatParam.{param_six_digits, mode_list}
use Rattle.str0m_formats.specs.format.FormatParam.{param_value_text}
use Rattle.str0m_formats.specs.format.FormatParamReading.{modes_read, param_of}

-- a numeral begins with no plus
param_digits_no_plus : (radix : ℕ) (ds : List ℕ) → radix ≤ 16 → AllDigits radix ds → get_or ds 0 0 ≢ 43
param_digits_no_plus radix [] small h e = omega arith
param_digits_no_plus radix (c ∷ cs) small h e = grind arith

-- digits read as their value
param_as_number : (limit radix : ℕ) (text : List ℕ) (n : ℕ) → radix ≤ 16 → IsNumeral radix text → digits_value radix text ≡ n → n ≤ limit
    → IsNumber radix limit text n
param_as_number limit radix text n small numeral value fits = grind arith

-- a printed number reads as itself
pub param_decimal_reads : (limit n : ℕ) → n ≤ limit → n < 2 ^ 64 → IsNum limit (decimal n) n
param_decimal_reads limit n fits small = grind (arith, decimal_is_IsNumeral n small, param_as_number limit 10 (decimal n) n)

-- zeros in front change no value
param_zeros_digits : (k : ℕ) (ds : List ℕ) → AllDigits 16 ds → AllDigits 16 (replicate k 48 ++ ds)
param_zeros_digits zero ds h = h
param_zeros_digits (suc k) ds h = (lit< tt, param_zeros_digits k ds h)

param_zeros_value : (k : ℕ) (ds : List ℕ) → digits_value 16 (replicate k 48 ++ ds) ≡ digits_value 16 ds
param_zeros_value zero ds = refl
param_zeros_value (suc k) ds = param_zeros_value k ds

pub param_six_digits_reads : (n : ℕ) → n ≤ 4294967295 → IsNumber 16 4294967295 (param_six_digits n) n
param_six_digits_reads n fits = grind (arith, digits_is_IsNumeral, param_as_number, length-append, param_zeros_digits, param_zeros_value)

param_flag_reads : (b : Bool) → ReadsKind flag (param_flag_text b) b
param_flag_reads b = grind arith

mask_reads_back : ℕ → Option ℕ → Bool
mask_reads_back mask None = false
mask_reads_back mask (Some read) = read == mask

-- each mask with a mode is read as it prints
masks_below : ℕ → Bool
masks_below zero = true
masks_below (suc mask) = mask_reads_back (suc mask) (modes_read (mode_list (suc mask))) && masks_below mask

all_masks : masks_below 511 ≡ true
unfolding modes_read masks_below mask_reads_back digits trim_end chars trim_start encode_utf8
all_masks = refl

mask_reads : (most mask : ℕ) → masks_below most ≡ true → 0 < mask → mask ≤ most → modes_read (mode_list mask) ≡ Some mask
unfolding masks_below mask_reads_back
mask_reads zero mask e some le = absurd (omega arith)
mask_reads (suc most) mask e some le =
    let p = and_parts (mask_reads_back (suc most) (modes_read (mode_list (suc most)))) (masks_below most) e in
    elim (cases_lt mask (suc most)) [
      | inl below ↦ mask_reads most mask p.1 some (omega arith)
      | inr last ↦
          let same : mask ≡ suc most = omega arith in
          rw same (is_back (suc most) (modes_read (mode_list (suc most))) p.0)
    ]
  where
    is_back : (mask : ℕ) (o : Option ℕ) → mask_reads_back mask o ≡ true → o ≡ Some mask
    is_back mask None e = absurd (false≢true e)
    is_back mask (Some read) e = ap (λ (n : ℕ). Some n) (eqb-true read mask e)

mode_set_reads : (mask : ℕ) → (0 < mask) × (mask ≤ 511) → IsModeSet (mode_list mask) mask
mode_set_reads mask h = rw (mask_reads 511 mask all_masks h.0 h.1) at (modes_only (mode_list mask)).found

-- no text is no set of modes
text_of_modes : (text : List ℕ) (mask : ℕ) → modes_read text ≡ Some mask → IsRest text
unfolding modes_read trim_end chars trim_start encode_utf8
text_of_modes [] mask e = absurd cc
text_of_modes (c ∷ cs) mask e = omega arith

pub modes_filled : (mask : ℕ) → (0 < mask) × (mask ≤ 511) → IsRest (mode_list mask)
modes_filled mask h = text_of_modes (mode_list mask) mask (mask_reads 511 mask all_masks h.0 h.1)

-- the limits of the table have 32 bits
abbrev pub param_is_kind_small : Kind → Bool
param_is_kind_small (number limit) = nat_le limit 4294967295
param_is_kind_small k = true

pub key_small : (k : FormatKey) → param_is_kind_small (kind k) ≡ true
key_small k = grind arith

pub param_limit_small : (limit n : ℕ) → param_is_kind_small (number limit) ≡ true → n ≤ limit → n ≤ 4294967295
param_limit_small limit n small h = let le : limit ≤ 4294967295 = leb-true limit 4294967295 small in omega arith

-- a printed value reads as itself
param_value_reads : (k : Kind) (x : HeldParamValue k) → param_is_kind_small k ≡ true → IsParamInRange k x
    → ReadsKind k (param_value_text k x) x
param_value_reads flag b small h = param_flag_reads b
param_value_reads (number limit) n small h = let le = param_limit_small limit n small h in param_decimal_reads limit n h (omega (arith, le))
param_value_reads hex n small h = inl (param_six_digits_reads n h)
param_value_reads modes mask small h = mode_set_reads mask h
param_value_reads (exactly own) x small h = absurd h
param_value_reads anything x small h = absurd h

-- what a key and its value print is read as the parameter that holds them
pub key_reads : (k : FormatKey) (x : HeldParamValue (kind k)) → IsParamInRange (kind k) x
    → param_of (key_text k, param_value_text (kind k) x) ≡ keyed k x
key_reads k x h = sym (param_spelled (key_text k) (param_value_text (kind k) x) (keyed k x)
    (k, refl, (x, refl, param_value_reads (kind k) x (key_small k) h)))

-- the table and the keys of parameters agree
pub entry_made : (param : FormatParam) → MatchOption (entry param) (Unit {0}) (λ e. param ≡ keyed e.0 e.1)
entry_made param = grind arith

-- what a parameter of the table prints is read as that parameter
pub parsed_param_printed : (key_as value : List ℕ) (r : FormatParam) → IsParsedParam (key_as, value) r → (p : FormatParam)
    → IsPrintedParam p (key_as, value) → r ≡ p
parsed_param_printed key_as value r h p printed = parsed_param_only key_as value r h ∙ reads (entry p) (entry_made p) printed
  where
    reads : (o : Option ((k : FormatKey) × HeldParamValue (kind k))) → MatchOption o (Unit {0}) (λ e. p ≡ keyed e.0 e.1)
        → MatchOption o ⊥ (λ e. (key_as ≡ key_text e.0) × (value ≡ param_value_text (kind e.0) e.1) × IsParamInRange (kind e.0) e.1)
        → param_of (key_as, value) ≡ p
    reads None is printed = absurd printed
    reads (Some e) is printed = (λ i. param_of (printed.0 i, printed.1 i)) ∙ key_reads e.0 e.1 printed.2 ∙ sym is
