-- Parameters that are set one after another.
use Rattle.str0m_formats.proofs.Common.{arith, ◌≡◌, ◌&&◌, Bool, true, List, [], ◌∷◌, Option, Some, None, option_map, refl, ap, ◌∙◌, sym}
use Rattle.str0m_formats.proofs.Common.{cons_option, filter_map, and_parts, is_none}
use Rattle.str0m_formats.specs.declared.format.format_key.FormatKey.TheVariants as key
use Rattle.str0m_formats.specs.declared.format.format_param.FormatParam.{FormatParam}
use Rattle.str0m_formats.specs.declared.format.format_params.Field.{Field}
use Rattle.str0m_formats.specs.declared.format.format_params.Field.TheVariants as field
use Rattle.str0m_formats.specs.declared.format.format_params.FormatParams.{FormatParams}
use Rattle.str0m_formats.specs.declared.format.format_params.TheConstants.{FIELDS}
use Rattle.str0m_formats.specs.format.FormatParams.{FormatFieldContent, get, put_format_field, param_in, set, set_all, empty, param_at}
use Rattle.str0m_formats.specs.format.FormatParams.{params_of}

-- ---- one field

set_put : (f : Field) (x : FormatFieldContent f) (p : FormatParams) → set (param_in f x) p ≡ put_format_field f (Some x) p
set_put (field.Key key.Apt) x p = refl
set_put f x p = refl

param_put_get : (f : Field) (p : FormatParams) → put_format_field f (get f p) p ≡ p
param_put_get (field.Key key.Apt) p = refl
param_put_get f p = refl

pub param_is : (f : Field) (p : FormatParams) → param_at f p ≡ option_map (param_in f) (get f p)
param_is (field.Key key.Apt) p = refl
param_is f p = refl

format_none_from_test : {A : Type 0} (o : Option A) → is_none o ≡ true → o ≡ None
format_none_from_test o e = grind arith

-- ---- one field after another

-- the format p, with these fields of q
abbrev pub format_fields_filled : List Field → FormatParams → FormatParams → FormatParams
format_fields_filled [] q p = p
format_fields_filled (f ∷ fs) q p = format_fields_filled fs q (put_format_field f (get f q) p)

-- none of these fields is given when its turn comes
abbrev pub are_format_fields_fresh : List Field → FormatParams → FormatParams → Bool
are_format_fields_fresh [] q p = true
are_format_fields_fresh (f ∷ fs) q p = is_none (get f p) && are_format_fields_fresh fs q (put_format_field f (get f q) p)

set_next : (f : Field) (q p : FormatParams) (rest : List FormatParam) → is_none (get f p) ≡ true
    → set_all p (cons_option (param_at f q) rest) ≡ set_all (put_format_field f (get f q) p) rest
set_next f q p rest none = ap (λ o. set_all p (cons_option o rest)) (param_is f q) ∙ go (get f q)
  where
    go : (o : Option (FormatFieldContent f)) → set_all p (cons_option (option_map (param_in f) o) rest)
        ≡ set_all (put_format_field f o p) rest
    go None = ap (λ p. set_all p rest)
        (sym (ap (λ o. put_format_field f o p) (sym (format_none_from_test (get f p) none)) ∙ param_put_get f p))
    go (Some x) = ap (λ p. set_all p rest) (set_put f x p)

pub set_each : (fs : List Field) (q p : FormatParams) → are_format_fields_fresh fs q p ≡ true
    → set_all p (filter_map (λ f. param_at f q) fs) ≡ format_fields_filled fs q p
set_each [] q p fresh = refl
set_each (f ∷ fs) q p fresh = grind (arith, and_parts, set_next, set_each fs q)

pub set_again : (p : FormatParams) (params : List FormatParam) → params ≡ params_of p → set_all empty params ≡ p
unfolding params_of
set_again p params e = ap (set_all empty) e ∙ set_each FIELDS p empty refl
