-- Parameters of the table of keys, as they print and are read again.
use Rattle.str0m_formats.proofs.Common.{◌≡◌, ◌⊎◌, ℕ, Bool, false, List, [], ◌∷◌, length, map, filter, nat_lt, Option, Some, None}
use Rattle.str0m_formats.proofs.Common.{MatchOption, refl, arith, inl, inr, AllByRecursion, str_to_ascii_lowercase, lt-ltb, IsRest}
use Rattle.str0m_formats.proofs.format.FormatParamAgain.{key_reads, entry_made}
use Rattle.str0m_formats.proofs.format.FormatParamModeBounds.{modes_within}
use Rattle.str0m_formats.proofs.format.FormatParamsShown.{joined_pair, IsSolidPair, Entry, HasParamInRange, pair_of_entry, pair_solid}
use Rattle.str0m_formats.specs.declared.format.format_key.FormatKey.{FormatKey}
use Rattle.str0m_formats.specs.declared.format.format_key.FormatKey.TheVariants as key
use Rattle.str0m_formats.specs.declared.format.format_param.FormatParam.{FormatParam}
use Rattle.str0m_formats.specs.format.FormatKey.{key_text}
use Rattle.str0m_formats.specs.format.FormatParam.{Kind, flag, number, hex, modes, exactly, anything, HeldParamValue, ReadsKind, kind}
use Rattle.str0m_formats.specs.format.FormatParam.{keyed}
use Rattle.str0m_formats.specs.format.FormatParam.{entry}
use Rattle.str0m_formats.specs.format.FormatParam.{IsParsedParam, AreParsedParams, IsParamInRange, param_text}
use Rattle.str0m_formats.specs.format.FormatParamReading.{param_of}
use Rattle.str0m_formats.specs.format.Pairs.{is_triple_mark, has_triple_mark}

-- the key and the value that a parameter of the table prints
abbrev pub entry_pair : Option Entry → List ℕ × List ℕ
entry_pair None = ([], [])
entry_pair (Some e) = pair_of_entry e

abbrev pub pair_of : FormatParam → List ℕ × List ℕ
pair_of param = entry_pair (entry param)

-- a parameter of the table, with a value that reads back
abbrev pub IsKeyed : FormatParam → Type 0
IsKeyed param = MatchOption (entry param) ⊥ HasParamInRange

-- no key marks a profile, tier and level, and each is in lower case
pub key_unmarked : (k : FormatKey) → (is_triple_mark (key_text k) ≡ false) × (str_to_ascii_lowercase (key_text k) ≡ key_text k)
key_unmarked k = grind arith

-- ---- what is read of a pair

abbrev RangedKey : (k : Kind) → HeldParamValue k → Type 0
RangedKey (exactly own) x = Unit {0}
RangedKey anything x = Unit {0}
RangedKey k x = IsParamInRange k x

key_value_ranged : (k : Kind) (text : List ℕ) (x : HeldParamValue k) → ReadsKind k text x → RangedKey k x
key_value_ranged flag text b h = tt
key_value_ranged (number limit) text n h = h.fits
key_value_ranged hex text n (inl h) = h.fits
key_value_ranged hex text n (inr h) = h.1.fits
key_value_ranged modes text mask h = modes_within text mask h
key_value_ranged (exactly own) text x h = tt
key_value_ranged anything text x h = tt

-- what is read of a pair is of the table, under its key, or prints nothing
key_spelled : (k : FormatKey) (text : List ℕ) (x : HeldParamValue (kind k)) → ReadsKind (kind k) text x
    → IsKeyed (keyed k x) ⊎ (param_text (keyed k x) ≡ [])
key_spelled key.Crc text x h = inr refl
key_spelled key.RobustSorting text x h = inr refl
key_spelled key.ModeChangePeriod text x h = inr refl
key_spelled key.Interleaving text x h = inr refl
key_spelled k text x h = inl (key_value_ranged (kind k) text x h)

pub keyed_or_hidden : (pair : List ℕ × List ℕ) (param : FormatParam) → IsParsedParam pair param → IsKeyed param ⊎ (param_text param ≡ [])
keyed_or_hidden pair param o = grind (arith, key_spelled)

pub own_key : (k : FormatKey) (x : HeldParamValue (kind k)) → IsKeyed (keyed k x) → (pair_of (keyed k x)).0 ≡ key_text k
own_key key.Crc x h = absurd h
own_key key.RobustSorting x h = absurd h
own_key key.ModeChangePeriod x h = absurd h
own_key key.Interleaving x h = absurd h
own_key k x h = refl

-- ---- what is printed of it

-- it is read again
read_again : (param : FormatParam) (o : Option Entry) → MatchOption o (Unit {0}) (λ e. param ≡ keyed e.0 e.1)
    → MatchOption o ⊥ HasParamInRange
    → param_of (entry_pair o) ≡ param
read_again param o is h = grind (arith, key_reads)

keyed_read : (param : FormatParam) → IsKeyed param → param_of (pair_of param) ≡ param
keyed_read param h = read_again param (entry param) (entry_made param) h

key_solid_of : (o : Option Entry) → MatchOption o ⊥ HasParamInRange → IsSolidPair (entry_pair o)
key_solid_of o h = grind (arith, pair_solid)

keyed_solid : (param : FormatParam) → IsKeyed param → IsSolidPair (pair_of param)
keyed_solid param h = key_solid_of (entry param) h

param_text_at : (param : FormatParam) (o : Option Entry) → entry param ≡ o → MatchOption o ⊥ HasParamInRange
    → param_text param ≡ joined_pair (entry_pair o)
param_text_at param o is h = grind arith

keyed_again : (param : FormatParam) → IsKeyed param → param_text param ≡ joined_pair (pair_of param)
keyed_again param h = param_text_at param (entry param) refl h

key_mark_of : (o : Option Entry) → MatchOption o ⊥ HasParamInRange → is_triple_mark (entry_pair o).0 ≡ false
key_mark_of o h = grind arith

-- ---- lists of them

abbrev pub AreKeyed : List FormatParam → Type 0
AreKeyed params = AllByRecursion IsKeyed params

-- whether a parameter prints something
abbrev pub key_param_prints : FormatParam → Bool
key_param_prints param = nat_lt 0 (length (param_text param))

pub keyed_shown : (param : FormatParam) → IsKeyed param → IsRest (param_text param)
keyed_shown param h = grind arith

-- those that print something are of the table
pub shown_keyed : (pairs : List (List ℕ × List ℕ)) (params : List FormatParam) → AreParsedParams pairs params
    → AreKeyed (filter key_param_prints params)
shown_keyed [] [] are = tt
shown_keyed [] (param ∷ params) are = absurd are
shown_keyed (pair ∷ pairs) [] are = absurd are
shown_keyed (pair ∷ pairs) (param ∷ params) are =
    grind (arith, keyed_or_hidden pair param are.0, lt-ltb 0 (length (param_text param)), keyed_shown param, shown_keyed pairs params are.1)

pub keyed_params : (params : List FormatParam) → AreKeyed params → map param_of (map pair_of params) ≡ params
keyed_params [] h = refl
keyed_params (param ∷ params) h = (λ i. keyed_read param h.0 i ∷ keyed_params params h.1 i)

pub keyed_texts : (params : List FormatParam) → AreKeyed params → map param_text params ≡ map joined_pair (map pair_of params)
keyed_texts [] h = refl
keyed_texts (param ∷ params) h = (λ i. keyed_again param h.0 i ∷ keyed_texts params h.1 i)

pub keyed_pairs : (params : List FormatParam) → AreKeyed params → AllByRecursion IsSolidPair (map pair_of params)
keyed_pairs [] h = tt
keyed_pairs (param ∷ params) h = (keyed_solid param h.0, keyed_pairs params h.1)

pub keyed_unmarked : (params : List FormatParam) → AreKeyed params → has_triple_mark (map pair_of params) ≡ false
unfolding has_triple_mark
keyed_unmarked [] h = refl
keyed_unmarked (param ∷ params) h = rw (key_mark_of (entry param) h.0) (keyed_unmarked params h.1)
