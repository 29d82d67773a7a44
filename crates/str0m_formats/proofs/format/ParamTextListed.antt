-- Texts that are printed one after another, parted by a character; and the parameters of a format, one field after another.
use Rattle.str0m_formats.proofs.Common.{arith, ◌≡◌, ◌<◌, ◌+◌, ℕ, Bool, true, false, List, [], ◌∷◌, ◌++◌, length, get_or, take, map, Some}
use Rattle.str0m_formats.proofs.Common.{None, refl, ap, ◌∙◌, join_with_byte, filter_map, cons_option, append_assoc, append-nil, take_more}
use Rattle.str0m_formats.proofs.Common.{filter_map-append}
use Rattle.str0m_formats.specs.declared.format.format_param.FormatParam.{FormatParam}
use Rattle.str0m_formats.specs.declared.format.format_params.Field.{Field}
use Rattle.str0m_formats.specs.declared.format.format_params.FormatParams.{FormatParams}
use Rattle.str0m_formats.specs.declared.format.format_params.TheConstants.{FIELDS}
use Rattle.str0m_formats.specs.format.FormatParam.{param_text, param_part_if}
use Rattle.str0m_formats.specs.format.FormatParams.{param_at, params_text, params_of}

unfoldable pub listed : {A : Type 0} → ℕ → (A → List ℕ) → List A → List ℕ
listed c text xs = join_with_byte c (map text xs)

unfoldable pub param_list_has_some : {A : Type 0} → List A → Bool
param_list_has_some [] = false
param_list_has_some (x ∷ xs) = true

pub listed_push : {A : Type 0} (c : ℕ) (text : A → List ℕ) (xs : List A) (x : A)
    → listed c text (xs ++ x ∷ []) ≡ listed c text xs ++ (param_part_if c (param_list_has_some xs) ++ text x)
unfolding listed param_list_has_some
listed_push c text [] x = refl
listed_push c text (y ∷ []) x = refl
listed_push c text (y ∷ z ∷ xs) x = grind (arith, listed_push c text (z ∷ xs) x, append_assoc)

pub param_list_has_some_push : {A : Type 0} (xs : List A) (x : A) → param_list_has_some (xs ++ x ∷ []) ≡ true
unfolding param_list_has_some
param_list_has_some_push [] x = refl
param_list_has_some_push (y ∷ xs) x = refl

-- ---- the parameters of the first n fields

unfoldable pub params_to : FormatParams → ℕ → List FormatParam
params_to p n = filter_map (λ field. param_at field p) (take n FIELDS)

params_next : (p : FormatParams) (n : ℕ) (f : Field) → n < length FIELDS
    → params_to p (n + 1) ≡ params_to p n ++ filter_map (λ field. param_at field p) (get_or FIELDS n f ∷ [])
unfolding params_to
params_next p n f lt = grind (arith, take_more FIELDS n f lt, filter_map-append)

-- a field that is given
pub params_push : (p : FormatParams) (n : ℕ) (f : Field) (param : FormatParam) → n < length FIELDS
    → param_at (get_or FIELDS n f) p ≡ Some param → params_to p (n + 1) ≡ params_to p n ++ param ∷ []
params_push p n f param lt given = params_next p n f lt ∙ ap (λ o. params_to p n ++ cons_option o []) given

-- a field that is not
pub params_pass : (p : FormatParams) (n : ℕ) (f : Field) → n < length FIELDS → param_at (get_or FIELDS n f) p ≡ None
    → params_to p (n + 1) ≡ params_to p n
params_pass p n f lt absent = params_next p n f lt ∙ ap (λ o. params_to p n ++ cons_option o []) absent ∙ append-nil (params_to p n)

pub listed_all : (p : FormatParams) → listed 59 param_text (params_to p (length FIELDS)) ≡ params_text p
unfolding params_to listed params_text params_of
listed_all p = refl

pub params_all : (p : FormatParams) → params_to p (length FIELDS) ≡ params_of p
unfolding params_to params_of
params_all p = refl
