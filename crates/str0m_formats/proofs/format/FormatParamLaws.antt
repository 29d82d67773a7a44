-- What a key and its value read as.
use Rattle.str0m_formats.proofs.Common.{rules, arith, ◌≡◌, ℕ, List, [], ◌∷◌, map, Option, Some, None, refl, sym, ap, ◌∙◌, inl, inr, codes}
use Rattle.str0m_formats.proofs.Common.{unwrap_or, to_ascii_lowercase, bytes_eq, none-some, bytes_eq-Decides, IsTheOnly, ◌>>=◌, num_only}
use Rattle.str0m_formats.proofs.Common.{num_reads, num_when_true, cuts_some_is, only_read, one_answer, IfSome, option_map}
use Rattle.str0m_formats.proofs.codec.CodecLookup.{codec_find_passes, codec_if_some_map, codec_case_at}
use Rattle.str0m_formats.proofs.codec.CodecNames.{same_codec_text}
use Rattle.str0m_formats.proofs.format.FormatParamModes.{modes_only}
use Rattle.str0m_formats.proofs.format.FormatParamReadingLaws.{param_hex_both}
use Rattle.str0m_formats.specs.codec.Codec.{IsSameCodecText}
use Rattle.str0m_formats.specs.declared.format.format_key.FormatKey.{FormatKey}
use Rattle.str0m_formats.specs.declared.format.format_key.FormatKey.TheVariants as key
use Rattle.str0m_formats.specs.declared.format.format_param.FormatParam.{FormatParam}
use Rattle.str0m_formats.specs.declared.format.format_param.FormatParam.TheVariants.{Unknown}
use Rattle.str0m_formats.specs.format.FormatKey.{key_text}
use Rattle.str0m_formats.specs.format.FormatParam.{Kind, flag, number, hex, modes, exactly, anything, HeldParamValue, ReadsKind, kind}
use Rattle.str0m_formats.specs.format.FormatParam.{keyed}
use Rattle.str0m_formats.specs.format.FormatParam.{ParamHoldsValue, SpellsParam, IsParsedParam, AreParsedParams, IsEventRange, IsBareParam}
use Rattle.str0m_formats.specs.format.FormatParamReading.{param_hex_read, keys, key_read, is_param_flag_one, kind_read, param_value_read}
use Rattle.str0m_formats.specs.format.FormatParamReading.{param_of}
use Rattle.str0m_formats.specs.format.FormatParamReading.{bare_param}

-- ---- keys

-- no two keys have the same text
key_at-text : (k : FormatKey) → codec_case_at key_text keys (map to_ascii_lowercase (key_text k)) ≡ Some k
key_at-text k = grind arith

pub key_only : (text : List ℕ) → IsTheOnly (λ key. IsSameCodecText text (key_text key)) (key_read text)
unfolding key_read
key_only text = search (rules, codec_if_some_map, codec_find_passes, same_codec_text, key_at-text)

-- ---- values

-- a kind reads exactly what it is
kind_complete : (k : Kind) (text : List ℕ) (x : HeldParamValue k) → ReadsKind k text x → kind_read k text ≡ Some x
kind_complete flag text b h = ap (λ b. Some b) (one_answer (is_param_flag_one text) b (bytes_eq-Decides text (codes "1")) h)
kind_complete (number limit) text n h = num_reads limit text n h
kind_complete hex text n h = param_hex_both.complete text n h
kind_complete modes text mask h = (modes_only text).only mask h
kind_complete (exactly own) text x h = num_when_true (bytes_eq text own) (tt {0}) ((bytes_eq-Decides text own).1 h)
kind_complete anything text x h = refl

kind_sound : (k : Kind) (text : List ℕ) → IfSome (kind_read k text) (ReadsKind k text)
kind_sound flag text = bytes_eq-Decides text (codes "1")
kind_sound (number limit) text = (num_only limit text).found
kind_sound hex text = (only_read param_hex_both text (param_hex_read text) refl).found
kind_sound modes text = (modes_only text).found
kind_sound (exactly own) text = grind (arith, bytes_eq-Decides)
kind_sound anything text = tt

-- so does a key
by_kind : (k : FormatKey) (text : List ℕ) → param_value_read k text ≡ option_map (keyed k) (kind_read (kind k) text)
by_kind key.Apt text = refl
by_kind k text = refl

held_param_read : (k : FormatKey) (text : List ℕ) (param : FormatParam) → ParamHoldsValue k text param
    → param_value_read k text ≡ Some param
held_param_read k text param h = by_kind k text ∙ ap (option_map (keyed k)) (kind_complete (kind k) text h.0 h.2)
    ∙ ap (λ p. Some p) (sym h.1)

read_param_held : (k : FormatKey) (text : List ℕ) (param : FormatParam) → param_value_read k text ≡ Some param
    → ParamHoldsValue k text param
read_param_held k text param e = grind (arith, kind_sound (kind k) text, by_kind k text)

-- ---- pairs

pub parsed_param : (key_as value : List ℕ) → IsParsedParam (key_as, value) (param_of (key_as, value))
unfolding param_of
parsed_param key_as value = known (key_read key_as) (key_only key_as)
  where
    held : (k : FormatKey) → IsTheOnly (λ key. IsSameCodecText key_as (key_text key)) (Some k) → (o : Option FormatParam)
        → param_value_read k value ≡ o → IsParsedParam (key_as, value) (unwrap_or o Unknown)
    held k is (Some p) e = inl (k, is.found, read_param_held k value p e)
    held k is None e = inr (
      (λ c h. none-some c (sym e ∙ ap (λ (key : FormatKey). param_value_read key value) (cuts_some_is k h.0 (is.only h.0 h.1))
          ∙ held_param_read h.0 value c h.2)),
      refl,
    )

    known : (o : Option FormatKey) → IsTheOnly (λ key. IsSameCodecText key_as (key_text key)) o
        → IsParsedParam (key_as, value) (unwrap_or (o >>= λ key. param_value_read key value) Unknown)
    known None none = inr ((λ c h. none-some h.0 (none.only h.0 h.1)), refl)
    known (Some k) is = held k is (param_value_read k value) refl

-- what spells a parameter is read as it
pub param_spelled : (key_as value : List ℕ) (param : FormatParam) → SpellsParam (key_as, value) param → param ≡ param_of (key_as, value)
unfolding param_of
param_spelled key_as value param h = sym
    (ap (λ (o : Option FormatKey). unwrap_or (o >>= λ key. param_value_read key value) Unknown) ((key_only key_as).only h.0 h.1)
    ∙ ap (λ (o : Option FormatParam). unwrap_or o Unknown) (held_param_read h.0 value param h.2))

pub parsed_param_only : (key_as value : List ℕ) (param : FormatParam) → IsParsedParam (key_as, value) param
    → param ≡ param_of (key_as, value)
parsed_param_only key_as value param h = elim h [
  | inl spells ↦ param_spelled key_as value param spells
  | inr none ↦ elim (parsed_param key_as value) [
    | inl spells ↦ absurd (none.0 (param_of (key_as, value)) spells)
    | inr unknown ↦ none.1 ∙ sym unknown.1
  ]
]

-- the same of lists
pub all_parsed_params : (pairs : List (List ℕ × List ℕ)) → AreParsedParams pairs (map param_of pairs)
all_parsed_params [] = tt
all_parsed_params (pair ∷ pairs) = (parsed_param pair.0 pair.1, all_parsed_params pairs)

pub all_parsed_params_only : (pairs : List (List ℕ × List ℕ)) (params : List FormatParam) → AreParsedParams pairs params
    → params ≡ map param_of pairs
all_parsed_params_only [] [] h = refl
all_parsed_params_only (pair ∷ pairs) (param ∷ params) h = grind
    (arith, parsed_param_only pair.0 pair.1 param h.0, all_parsed_params_only pairs params h.1)
all_parsed_params_only [] (param ∷ params) h = absurd h
all_parsed_params_only (pair ∷ pairs) [] h = absurd h

-- ---- values without a key

pub bare_param_of : (text : List ℕ) (last : Option ℕ) → IsTheOnly (IsEventRange text) last → IsBareParam text (bare_param last)
bare_param_of text (Some n) h = inl (n, refl, h.found)
bare_param_of text None h = inr ((λ c is. none-some is.0 (h.only is.0 is.2)), refl)
