-- The pieces that forms share are read both ways.
use Rattle.str0m_signal.proofs.Common.{◌≢◌, ◌≤◌, arith, cases_eq, eq-eqb, ne_eqb, digits_lack, digits_value, IsNumeral, ◌≡◌, ℕ, List, []}
use Rattle.str0m_signal.proofs.Common.{◌∷◌, ◌++◌, length, Option, Some, None, refl, sym, ap, ◌∙◌, inl, inr, ltb-true, ◌>>=◌, cut, when}
use Rattle.str0m_signal.proofs.Common.{is_rest, num, IsNum, cuts_bind_some, cuts_some_is, cut_none, cut_none_lacks, cut_at, cut_found}
use Rattle.str0m_signal.proofs.Common.{strip_at}
use Rattle.str0m_signal.proofs.Common.{strip_found, cuts_when_some, num_found, num_reads, num_rest_true, Reads, append-nil}
use Rattle.str0m_signal.specs.form.FormReading.{behind, digits_read, text_read, two_read, tailed_form_piece_after, tailed_read}
use Rattle.str0m_signal.specs.form.Forms.{Behind, IsText, TwoFormParts, IsBeforeDroppedFormTail}

pub text_both : Reads IsText text_read
text_both = grind arith

-- digits alone, at most the limit
abbrev pub AreDigits : ℕ → List ℕ → ℕ → Type 0
AreDigits limit text n = IsNumeral 10 text × (digits_value 10 text ≡ n) × (n ≤ limit)

pub digits_both : (limit : ℕ) → Reads (AreDigits limit) (digits_read limit)
digits_both limit = record { sound = found; complete = given }
  where
    found : (text : List ℕ) (n : ℕ) → digits_read limit text ≡ Some n → AreDigits limit text n
    found [] n e = absurd cc
    found (x ∷ xs) n e =
        elim (cases_eq x 43) [
          | inl plus ↦ let none : None ≡ Some n = rw (eq-eqb 43 x (sym plus)) at e in absurd cc
          | inr other ↦
              let read : num limit (x ∷ xs) ≡ Some n = rw (ne_eqb 43 x (λ same. other (sym same))) at e in
              let is = num_found limit (x ∷ xs) n read in
              let numeral : IsNumeral 10 (x ∷ xs) = rw (ne_eqb x 43 other) at is.numeral in
              let value : digits_value 10 (x ∷ xs) ≡ n = rw (ne_eqb x 43 other) at is.value in
              (numeral, value, is.fits)
        ]

    given : (text : List ℕ) (n : ℕ) → AreDigits limit text n → digits_read limit text ≡ Some n
    given [] n h = absurd (omega (arith, h.0.0))
    given (x ∷ xs) n h =
        let other : x ≢ 43 = (digits_lack 43 (x ∷ xs) (omega arith) h.0.1).0 in
        let is : IsNum limit (x ∷ xs) n = record { numeral = rw (ne_eqb x 43 other) h.0; value = rw (ne_eqb x 43 other) h.1; fits = h.2 } in
        rw (ne_eqb 43 x (λ same. other (sym same))) (num_reads limit (x ∷ xs) n is)

pub form_behind_both : {A : Type 0} {F : List ℕ → A → Type 0} {f : List ℕ → Option A} (label : List ℕ) → Reads F f
    → Reads (Behind label F) (behind label f)
form_behind_both {f} label reads = grind (arith, cuts_bind_some, strip_found, strip_at)

pub form_two_both : {A B : Type 0} {F : List ℕ → A → Type 0} {G : List ℕ → B → Type 0} {f : List ℕ → Option A} {g : List ℕ → Option B}
    (c : ℕ)
    → Reads F f → Reads G g → Reads (TwoFormParts c F G) (two_read c f g)
form_two_both {A} {B} {F} {G} {f} {g} c first second = record {
  sound = λ text x e.
      let p = cuts_bind_some (cut c text) (λ parts. f parts.0 >>= λ a. g parts.1 >>= λ b. Some (a, b)) x e in
      let a = cuts_bind_some (f p.0.0) (λ a. g p.0.1 >>= λ b. Some (a, b)) x p.2 in
      let b = cuts_bind_some (g p.0.1) (λ b. Some (a.0, b)) x a.2 in
      let found = cut_found c text p.0.0 p.0.1 p.1 in
      rw (← cuts_some_is (a.0, b.0) x b.2) (p.0.0, p.0.1, found.0, found.1, first.sound p.0.0 a.0 a.1, second.sound p.0.1 b.0 b.1);
  complete = λ text x h.
      ap (two_read c f g) h.2 ∙ rw (cut_at c h.0 h.1 h.3, first.complete h.0 x.0 h.4, second.complete h.1 x.1 h.5) refl;
}

pub form_tailed_both : {A : Type 0} {F : List ℕ → A → Type 0} {f : List ℕ → Option A} (c : ℕ) → Reads F f
    → Reads (IsBeforeDroppedFormTail c F) (tailed_read c f)
form_tailed_both {A} {F} {f} c reads = record { sound = λ text x e. found text x (cut c text) refl e; complete = given }
  where
    found : (text : List ℕ) (x : A) (o : Option (List ℕ × List ℕ)) → cut c text ≡ o → tailed_form_piece_after f text o ≡ Some x
        → IsBeforeDroppedFormTail c F text x
    found text x None cut-is e = (text, [], sym (append-nil text), cut_none_lacks c text cut-is, reads.sound text x e, inl refl)
    found text x (Some p) cut-is e =
        let a = cuts_bind_some (f p.0) (λ v. when (is_rest p.1) v) x e in
        let w = cuts_when_some (is_rest p.1) a.0 x a.2 in
        let cut-found = cut_found c text p.0 p.1 cut-is in
        rw (← w.1) (p.0, c ∷ p.1, cut-found.0, cut-found.1, reads.sound p.0 a.0 a.1, inr (p.1, refl, ltb-true 0 (length p.1) w.0))

    given : (text : List ℕ) (x : A) → IsBeforeDroppedFormTail c F text x → tailed_read c f text ≡ Some x
    given text x h =
        elim h.5 [
          | inl none ↦
              let whole : text ≡ h.0 = h.2 ∙ ap (λ (t : List ℕ). h.0 ++ t) none ∙ append-nil h.0 in
              ap (tailed_read c f) whole ∙ rw (cut_none c h.0 h.3) (reads.complete h.0 x h.4)
          | inr tail ↦
              let whole : text ≡ h.0 ++ (c ∷ tail.0) = h.2 ∙ ap (λ (t : List ℕ). h.0 ++ t) tail.1 in
              ap (tailed_read c f) whole ∙ rw (cut_at c h.0 tail.0 h.3, reads.complete h.0 x h.4, num_rest_true tail.0 tail.2) refl
        ]
