-- Pieces of lines that are printed as they were read: each has its form again, and holds no character that it hadn't.
use Rattle.str0m_signal.proofs.Common.{◌≤◌, ◌<◌, ◌^◌, ℕ, List, [], ◌∷◌, ◌++◌, refl, sym, subst, arith, inl, digit_value, decimal, join_by}
use Rattle.str0m_signal.proofs.Common.{append-nil, PartedAddress, Lacks, IsNum, LacksCut-append, address_lacks_both}
use Rattle.str0m_signal.proofs.form.FmtpPrinted.{fmtp_behind_lacks}
use Rattle.str0m_signal.proofs.line.AttributesPrinted.{attribute_num_is, attribute_decimal_lacks}
use Rattle.str0m_signal.specs.form.Forms.{Behind, IsText, TwoFormParts, IsBeforeDroppedFormTail}

-- what has the form F is printed as a text that has it again, and a character that is no digit stands there only where it stood before
pub record Again {A : Type 0} (F : List ℕ → A → Type 0) (print : A → List ℕ) : Type 0 where
  pub form : (text : List ℕ) (x : A) → F text x → F (print x) x
  pub lacks : (c : ℕ) → 16 ≤ digit_value c → (text : List ℕ) (x : A) → F text x → Lacks c text → Lacks c (print x)

pub text_again : Again IsText (λ x. x)
text_again = grind arith

pub num_again : (limit : ℕ) → limit < 2 ^ 64 → Again (IsNum limit) decimal
num_again limit small = record {
  form = λ text n h. attribute_num_is limit n h.fits small;
  lacks = λ c far text n h lacks. let fits = h.fits in attribute_decimal_lacks c n (omega arith) (omega arith);
}

module _ {A B : Type 0} {F : List ℕ → A → Type 0} {G : List ℕ → B → Type 0} {p : A → List ℕ} {q : B → List ℕ} where
  pub two_again : (c : ℕ) → 16 ≤ digit_value c → Again F p → Again G q → Again (TwoFormParts c F G) (λ pair. p pair.0 ++ (c ∷ q pair.1))
  two_again c far first second = record {
    form = λ text pair h.
        (p pair.0, q pair.1, refl, first.lacks c far h.0 pair.0 h.4 h.3, first.form h.0 pair.0 h.4, second.form h.1 pair.1 h.5);
    lacks = λ d other text pair h lacks.
        let whole : Lacks d (h.0 ++ (c ∷ h.1)) = subst (Lacks d) h.2 lacks in
        let behind = fmtp_behind_lacks d h.0 (c ∷ h.1) whole in
        address_lacks_both d (p pair.0) (c ∷ q pair.1) (first.lacks d other h.0 pair.0 h.4 (LacksCut-append d h.0 (c ∷ h.1) whole))
        (behind.0, second.lacks d other h.1 pair.1 h.5 behind.1);
  }

module _ {A : Type 0} {F : List ℕ → A → Type 0} {p : A → List ℕ} (again : Again F p) where
  pub tailed_again : (c : ℕ) → 16 ≤ digit_value c → Again (IsBeforeDroppedFormTail c F) p
  tailed_again c far = record {
    form = λ text x h. (p x, [], sym (append-nil (p x)), again.lacks c far h.0 x h.4 h.3, again.form h.0 x h.4, inl refl);
    lacks = λ d other text x h lacks. again.lacks d other h.0 x h.4 (LacksCut-append d h.0 h.1 (subst (Lacks d) h.2 lacks));
  }

  pub behind_again : (label : List ℕ) → Again (Behind label F) (λ x. label ++ p x)
  behind_again label = record {
    form = λ text x h. (p x, refl, again.form h.0 x h.2);
    lacks = λ d other text x h lacks.
        let whole : Lacks d (label ++ h.0) = subst (Lacks d) h.1 lacks in
        address_lacks_both d label (p x) (LacksCut-append d label h.0 whole)
        (again.lacks d other h.0 x h.2 (fmtp_behind_lacks d label h.0 whole));
  }

  parted_form : (c : ℕ) (text : List ℕ) (xs : List A) → PartedAddress c F text xs → PartedAddress c F (join_by p (c ∷ []) xs) xs
  parted_form c text [] h = absurd h
  parted_form c text (x ∷ []) h = subst (λ (t : List ℕ). F t x) (sym (append-nil (p x))) (again.form text x h)
  parted_form c text (x ∷ (y ∷ ys)) h = grind (arith, parted_form c h.1 (y ∷ ys) h.4)

  parted_text_lacks : (c d : ℕ) → 16 ≤ digit_value d → (text : List ℕ) (xs : List A) → PartedAddress c F text xs → Lacks d text
      → Lacks d (join_by p (c ∷ []) xs)
  parted_text_lacks c d other text [] h lacks = absurd h
  parted_text_lacks c d other text (x ∷ []) h lacks = grind (arith, append-nil)
  parted_text_lacks c d other text (x ∷ (y ∷ ys)) h lacks =
      let whole : Lacks d (h.0 ++ (c ∷ h.1)) = subst (Lacks d) h.2 lacks in
      let behind = fmtp_behind_lacks d h.0 (c ∷ h.1) whole in
      address_lacks_both d (p x) (c ∷ join_by p (c ∷ []) (y ∷ ys)) (again.lacks d other h.0 x h.3 (LacksCut-append d h.0 (c ∷ h.1) whole))
      (behind.0, parted_text_lacks c d other h.1 (y ∷ ys) h.4 behind.1)

  pub parted_again : (c : ℕ) → Again (PartedAddress c F) (join_by p (c ∷ []))
  parted_again c = record { form = parted_form c; lacks = λ d. parted_text_lacks c d }
