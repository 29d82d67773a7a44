-- When two values are equal by a derived `==`. `hlevel equality` finds the test of a type from its parts, with the proof that it decides
-- equality: so a field or a variant more needs no line.
use Rattle.str0m_formats.proofs.Common.{◌≡◌, ◌&&◌, ◌⊎◌, inl, inr, ℕ, Bool, true, false, List, Option, Some, None, nat_eq, beq, refl, sym}
use Rattle.str0m_formats.proofs.Common.{ap, ◌∙◌, Decides, unsigned_Decides, booleans_Decides, false≢true, Decides-like, pointwise}
use Rattle.str0m_formats.proofs.Common.{pointwise_decides, option_eq, Decides-and}
use denote.Enum.Bare.{Bare, sameb, same_true, true_same}
use denote.Enum.Declared.{Declared, left_or, right_or}
use mathlib.Core.Logic.{⊎_elim}

-- a test of equality, which decides
pub record ParamEqualityTest (V : Type 0) : Type 0 where
  pub test : V → V → Bool
  pub decides : (x y : V) → Decides (test x y) (x ≡ y)

abbrev pub param_eq_number : ParamEqualityTest ℕ
param_eq_number = record { test = nat_eq; decides = unsigned_Decides }

abbrev pub param_eq_bool : ParamEqualityTest Bool
param_eq_bool = record { test = beq; decides = booleans_Decides }

-- `==` on options decides equality where `==` on what they hold does
pub param_option_Decides : {T : Type 0} (E : T → T → Bool) → ((x y : T) → Decides (E x y) (x ≡ y)) → (a b : Option T)
    → Decides (option_eq E a b) (a ≡ b)
param_option_Decides E each None None = (λ _. refl, λ _. refl)
param_option_Decides E each None (Some y) = (λ h. cc, λ h. cc)
param_option_Decides E each (Some x) None = (λ h. cc, λ h. cc)
param_option_Decides E each (Some x) (Some y) = Decides-like (E x y) (λ e. ap Some e) (λ e. cc) (each x y)

abbrev pub param_eq_option : {T : Type 0} → ParamEqualityTest T → ParamEqualityTest (Option T)
param_eq_option own = record { test = option_eq own.test; decides = param_option_Decides own.test own.decides }

-- so does `==` on lists, texts among them
abbrev pub param_eq_list : {T : Type 0} → ParamEqualityTest T → ParamEqualityTest (List T)
param_eq_list own = record { test = pointwise own.test; decides = pointwise_decides own.decides }

-- and that of an enum without fields
pub param_bare_Decides : (D : Declared) → Bare D.parts → (a b : D.D) → Decides (sameb D a b) (a ≡ b)
param_bare_Decides D bare a b = (same_true D bare a b, true_same D a b)

abbrev pub param_eq_word : (D : Declared) → Bare D.parts → ParamEqualityTest D.D
param_eq_word D bare = record { test = sameb D; decides = param_bare_Decides D bare }

-- one part after another; the last has nothing after it
abbrev pub param_eq_last : {A : Type 0} → ParamEqualityTest A → ParamEqualityTest (A × Unit {0})
param_eq_last a = record {
  test = λ x y. a.test x.0 y.0;
  decides = λ x y. Decides-like (a.test x.0 y.0) (λ e i. (e i, tt)) (λ e i. (e i).0) (a.decides x.0 y.0);
}

abbrev pub param_eq_both : {A B : Type 0} → ParamEqualityTest A → ParamEqualityTest B → ParamEqualityTest (A × B)
param_eq_both a b = record {
  test = λ x y. a.test x.0 y.0 && b.test x.1 y.1;
  decides = λ x y. Decides-like (a.test x.0 y.0 && b.test x.1 y.1) (λ e i. (e.0 i, e.1 i)) (λ e. (λ i. (e i).0, λ i. (e i).1))
      (Decides-and (a.test x.0 y.0) (b.test x.1 y.1) (a.decides x.0 y.0) (b.decides x.1 y.1));
}

abbrev pub param_eq_unit : ParamEqualityTest (Unit {0})
param_eq_unit = record { test = λ x y. true; decides = λ x y. (λ h. refl, λ e. refl) }

-- one of several
abbrev pub param_either_test : {A B : Type 0} → ParamEqualityTest A → ParamEqualityTest B → A ⊎ B → A ⊎ B → Bool
param_either_test a b c d = ⊎_elim (λ x. ⊎_elim (λ y. a.test x y) (λ _. false) d) (λ x. ⊎_elim (λ _. false) (λ y. b.test x y) d) c

pub param_either_Decides : {A B : Type 0} (a : ParamEqualityTest A) (b : ParamEqualityTest B) (c d : A ⊎ B)
    → Decides (param_either_test a b c d) (c ≡ d)
param_either_Decides a b (inl x) (inl y) = Decides-like (a.test x y) (ap inl) (ap (left_or x)) (a.decides x y)
param_either_Decides a b (inr x) (inr y) = Decides-like (b.test x y) (ap inr) (ap (right_or x)) (b.decides x y)
param_either_Decides a b (inl x) (inr y) = (λ h. absurd (false≢true h), λ e. cc)
param_either_Decides a b (inr x) (inl y) = (λ h. absurd (false≢true h), λ e. cc)

abbrev pub param_eq_either : {A B : Type 0} → ParamEqualityTest A → ParamEqualityTest B → ParamEqualityTest (A ⊎ B)
param_eq_either a b = record { test = param_either_test a b; decides = param_either_Decides a b }

abbrev pub param_eq_never : ParamEqualityTest ⊥
param_eq_never = record { test = λ x y. absurd x; decides = λ x y. absurd x }

-- a type that is taken apart and put together again
abbrev pub param_eq_along : {A B : Type 0} (to : A → B) (from : B → A) → ((a : A) → from (to a) ≡ a) → ParamEqualityTest B
    → ParamEqualityTest A
param_eq_along to from back parts = record {
  test = λ x y. parts.test (to x) (to y);
  decides = λ x y. Decides-like (parts.test (to x) (to y)) (λ e. sym (back x) ∙ ap from e ∙ back y) (λ e. ap to e)
      (parts.decides (to x) (to y));
}

pub ruleset param_equality = (
  param_eq_number,
  param_eq_bool,
  param_eq_option,
  param_eq_list,
  param_eq_last,
  param_eq_both,
  param_eq_unit,
  param_eq_either,
  param_eq_never,
  param_eq_along,
)
