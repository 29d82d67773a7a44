-- A table of forms is read exactly where one of its forms holds: from a law of each form, and from its labels.
use Rattle.str0m_signal.proofs.Common.{arith, ◌≡◌, ◌⊎◌, ℕ, Bool, true, false, ◌&&◌, ◌||◌, ◌==◌, List, [], ◌∷◌, ◌++◌, Option, Some, None}
use Rattle.str0m_signal.proofs.Common.{refl, sym, ap, ◌∙◌, inl, inr, list_all, list_any, cases_eq, cases_Bool, eq-eqb, ne_eqb, and_parts}
use Rattle.str0m_signal.proofs.Common.{false≢true, bytes_eq-Decides, ◌<|>◌, cuts_or_some, cuts_when_some, num_when_true, append_assoc}
use Rattle.str0m_signal.proofs.Common.{append-nil}
use Rattle.str0m_signal.proofs.Common.{if◌then◌else◌, cuts_reads_none, Reads}
use Rattle.str0m_signal.proofs.form.FormLaws.{form_behind_both}
use Rattle.str0m_signal.specs.form.FormTable.{FormPiece, Form, own_label_form, form_made_as, labelled_form, word_form, AnyOfForms}
use Rattle.str0m_signal.specs.form.FormTable.{labels_of, first_read}
use Rattle.str0m_signal.specs.form.FormTable.{any_form}
use Rattle.str0m_signal.specs.form.FormTable.{word_forms_of}
use Rattle.str0m_signal.specs.form.FormTable.{any_word_form, forms_labelled_by, IsUnusedForm, unused_read, form_first_byte}
use Rattle.str0m_signal.specs.form.FormTable.{form_begins_with}
use Rattle.str0m_signal.specs.form.FormTable.{forms_beginning}
use Rattle.str0m_signal.specs.form.FormTable.{letter_read}
use Rattle.str0m_signal.specs.form.FormTable.{form_by_letter}

abbrev pub ReadableFormPiece : {A : Type 0} → FormPiece A → Type 0
ReadableFormPiece piece = Reads piece.Is piece.read

abbrev pub AllOfForms {ℓ} : {X : Type ℓ} → (X → Type 0) → List X → Type 0
AllOfForms P [] = Unit {0}
AllOfForms P (x ∷ xs) = P x × AllOfForms P xs

-- a law, and those of the others
infixr 5 ◌also◌
abbrev pub ◌also◌ : {A B : Type 0} → A → B → A × B
a also b = (a, b)

-- the line of the text begins with one of the labels
abbrev pub HasLabel : List ℕ → List (List ℕ) → Type 0
HasLabel text labels = AnyOfForms (λ label. (rest : List ℕ) × (text ++ (10 ∷ []) ≡ label ++ rest)) labels

-- a form reads exactly what it is, and its texts begin with its labels
pub record LawfulForm {A : Type 0} (form : Form A) : Type 0 where
  pub reads : Reads form.Is form.read
  pub begins : (text : List ℕ) (x : A) → form.Is text x → HasLabel text form.labels

-- ---- single forms

pub own_form_lawful : {A : Type 0} (label : List ℕ) {Is : List ℕ → A → Type 0} {read : List ℕ → Option A} → Reads Is read
    → ((text : List ℕ) (x : A) → Is text x → (body : List ℕ) × (text ≡ label ++ body)) → LawfulForm (own_label_form label Is read)
own_form_lawful label reads begins = record {
  reads = reads;
  begins = λ text x h.
      let b = begins text x h in
      inl (b.0 ++ (10 ∷ []), ap (λ (t : List ℕ). t ++ (10 ∷ [])) b.1 ∙ append_assoc label b.0 (10 ∷ []));
}

pub made_form_lawful : {A B : Type 0} {form : Form A} (make : A → B) → LawfulForm form → LawfulForm (form_made_as form make)
made_form_lawful {A} {B} {form} make law = grind arith

pub labelled_form_lawful : {A B : Type 0} {piece : FormPiece A} (label : List ℕ) (make : A → B) → ReadableFormPiece piece
    → LawfulForm (labelled_form label piece make)
labelled_form_lawful label make reads = made_form_lawful make
    (own_form_lawful label (form_behind_both label reads) (λ text x h. (h.0, h.1)))

word_form_lawful : {A : Type 0} (name : List ℕ) (x : A) → LawfulForm (word_form name x)
word_form_lawful name x = grind (arith, cuts_when_some, bytes_eq-Decides, num_when_true, append-nil)

pub unused_reads : {A : Type 0} (make : List ℕ → A) → Reads (IsUnusedForm make) (unused_read make)
unused_reads {A} make = grind arith

-- ---- several forms

-- neither of two labels is the beginning of the other
abbrev form_begin_apart : List ℕ → List ℕ → Bool
form_begin_apart [] b = false
form_begin_apart (x ∷ a) [] = false
form_begin_apart (x ∷ a) (y ∷ b) = if x == y then form_begin_apart a b else true

pub form_tail_is : {B : Type 0} (x y : B) (xs ys : List B) → x ∷ xs ≡ y ∷ ys → xs ≡ ys
form_tail_is x y xs ys e = cc

pub heads_same : {B : Type 0} (x y : B) (xs ys : List B) → x ∷ xs ≡ y ∷ ys → x ≡ y
heads_same x y xs ys e = cc

apart_texts : (a b r s : List ℕ) → form_begin_apart a b ≡ true → a ++ r ≡ b ++ s → ⊥
apart_texts [] b r s far e = false≢true far
apart_texts (x ∷ a) [] r s far e = false≢true far
apart_texts (x ∷ a) (y ∷ b) r s far e = grind (arith, cases_eq, apart_texts a b r s, eq-eqb, form_tail_is)

-- no label of the one form is the beginning of one of the other
abbrev labels_apart : List (List ℕ) → List (List ℕ) → Bool
labels_apart ls ms = list_all (λ a. list_all (form_begin_apart a) ms) ls

form_apart_from : (a : List ℕ) (ms : List (List ℕ)) (text r : List ℕ) → list_all (form_begin_apart a) ms ≡ true → text ++ (10 ∷ []) ≡ a ++ r
    → HasLabel text ms → ⊥
form_apart_from a [] text r far e h = absurd h
form_apart_from a (b ∷ ms) text r far e (inl h) = grind (arith, apart_texts, and_parts)
form_apart_from a (b ∷ ms) text r far e (inr h) = form_apart_from a ms text r
    (and_parts (form_begin_apart a b) (list_all (form_begin_apart a) ms) far).1 e h

form_no_text_in_both : (ls ms : List (List ℕ)) (text : List ℕ) → labels_apart ls ms ≡ true → HasLabel text ls → HasLabel text ms → ⊥
form_no_text_in_both [] ms text far h k = absurd h
form_no_text_in_both (a ∷ ls) ms text far (inl h) k = form_apart_from a ms text h.0
    (and_parts (list_all (form_begin_apart a) ms) (labels_apart ls ms) far).0 h.1 k
form_no_text_in_both (a ∷ ls) ms text far (inr h) k = form_no_text_in_both ls ms text
    (and_parts (list_all (form_begin_apart a) ms) (labels_apart ls ms) far).1 h k

-- no two forms have labels that a text could begin with at once
abbrev pub forms_apart : {A : Type 0} → List (Form A) → Bool
forms_apart [] = true
forms_apart (form ∷ forms) = labels_apart form.labels (labels_of forms) && forms_apart forms

-- the first form, and then the others
next_form : {A : Type 0} (form : Form A) (forms : List (Form A)) (text : List ℕ)
    → first_read (form ∷ forms) text ≡ (form.read text <|> first_read forms text)
next_form form forms text = grind arith

form_begins_either : (ls ms : List (List ℕ)) (text : List ℕ) → HasLabel text ls ⊎ HasLabel text ms → HasLabel text (ls ++ ms)
form_begins_either [] ms text (inl h) = absurd h
form_begins_either [] ms text (inr h) = h
form_begins_either (a ∷ ls) ms text (inl (inl h)) = inl h
form_begins_either (a ∷ ls) ms text (inl (inr h)) = inr (form_begins_either ls ms text (inl h))
form_begins_either (a ∷ ls) ms text (inr h) = inr (form_begins_either ls ms text (inr h))

module _ {A : Type 0} where
  any_form_sound : (forms : List (Form A)) → AllOfForms LawfulForm forms → (text : List ℕ) (x : A) → first_read forms text ≡ Some x
      → (any_form forms).Is text x
  any_form_sound [] laws text x e = absurd cc
  any_form_sound (form ∷ forms) laws text x e = elim
      (cuts_or_some (form.read text) (first_read forms text) x (sym (next_form form forms text) ∙ e)) [
        | inl h ↦ inl (laws.0.reads.sound text x h)
        | inr h ↦ inr (any_form_sound forms laws.1 text x h.1)
      ]

  form_any_begins : (forms : List (Form A)) → AllOfForms LawfulForm forms → (text : List ℕ) (x : A) → (any_form forms).Is text x
      → HasLabel text (labels_of forms)
  form_any_begins [] laws text x h = absurd h
  form_any_begins (form ∷ forms) laws text x (inl h) = form_begins_either form.labels (labels_of forms) text (inl (laws.0.begins text x h))
  form_any_begins (form ∷ forms) laws text x (inr h) = form_begins_either form.labels (labels_of forms) text
      (inr (form_any_begins forms laws.1 text x h))

  form_any_complete : (forms : List (Form A)) → AllOfForms LawfulForm forms → forms_apart forms ≡ true → (text : List ℕ) (x : A)
      → (any_form forms).Is text x
      → first_read forms text ≡ Some x
  form_any_complete [] laws far text x h = absurd h
  form_any_complete (form ∷ forms) laws far text x (inl h) = next_form form forms text ∙ rw (laws.0.reads.complete text x h) refl
  form_any_complete (form ∷ forms) laws far text x (inr h) =
      let parts = and_parts (labels_apart form.labels (labels_of forms)) (forms_apart forms) far in
      let none = cuts_reads_none laws.0.reads text
      (λ y k. form_no_text_in_both form.labels (labels_of forms) text parts.0 (laws.0.begins text y k)
      (form_any_begins forms laws.1 text x h)) in
      next_form form forms text ∙ rw none (form_any_complete forms laws.1 parts.1 text x h)

  pub any_form_lawful : (forms : List (Form A)) → AllOfForms LawfulForm forms → forms_apart forms ≡ true → LawfulForm (any_form forms)
  any_form_lawful forms laws far = grind (arith, any_form_sound, form_any_complete, form_any_begins)

  word_forms_lawful_each : (rows : List (List ℕ × A)) → AllOfForms LawfulForm (word_forms_of rows)
  word_forms_lawful_each [] = tt
  word_forms_lawful_each (row ∷ rows) = (word_form_lawful row.0 row.1, word_forms_lawful_each rows)

  pub word_forms_lawful : (rows : List (List ℕ × A)) → forms_apart (word_forms_of rows) ≡ true → LawfulForm (any_word_form rows)
  word_forms_lawful rows far = any_form_lawful (word_forms_of rows) (word_forms_lawful_each rows) far

  labelled_forms_each : {B : Type 0} (piece : FormPiece B) → ReadableFormPiece piece → (rows : List (List ℕ × (B → A)))
      → AllOfForms LawfulForm (forms_labelled_by piece rows)
  labelled_forms_each piece reads [] = tt
  labelled_forms_each piece reads (row ∷ rows) = (labelled_form_lawful row.0 row.1 reads, labelled_forms_each piece reads rows)

  pub all_labelled_forms_lawful : {B : Type 0} (piece : FormPiece B) → ReadableFormPiece piece → (rows : List (List ℕ × (B → A)))
      → forms_apart (forms_labelled_by piece rows) ≡ true
      → LawfulForm (any_form (forms_labelled_by piece rows))
  all_labelled_forms_lawful piece reads rows far = any_form_lawful (forms_labelled_by piece rows) (labelled_forms_each piece reads rows) far

-- ---- the look at the first letter

abbrev form_letter_is_in : ℕ → List ℕ → Bool
form_letter_is_in c letters = list_any (λ l. c == l) letters

-- the label begins with one of the letters
abbrev form_starts_in : List ℕ → List ℕ → Bool
form_starts_in letters [] = false
form_starts_in letters (x ∷ label) = form_letter_is_in x letters

-- a text that begins with one of the labels begins with a letter of both
form_letter_in : (letters : List ℕ) (labels : List (List ℕ)) (text : List ℕ) → list_all (form_starts_in letters) labels ≡ true
    → HasLabel text labels
    → (form_letter_is_in (form_first_byte text) letters ≡ true) × (form_begins_with (form_first_byte text) labels ≡ true)
form_letter_in letters [] text within h = absurd h
form_letter_in letters (label ∷ labels) text within (inl h) = grind arith
form_letter_in letters (label ∷ labels) text within (inr h) =
    let more = form_letter_in letters labels text
    (and_parts (form_starts_in letters label) (list_all (form_starts_in letters) labels) within).1 h in
    (more.0, either (form_first_byte label == form_first_byte text) (form_begins_with (form_first_byte text) labels) more.1)
  where
    either : (a b : Bool) → b ≡ true → (a || b) ≡ true
    either true b e = refl
    either false b e = e

-- the labels of each form begin with one of the letters
abbrev pub forms_start_in : {A : Type 0} → List ℕ → List (Form A) → Bool
forms_start_in letters [] = true
forms_start_in letters (form ∷ forms) = list_all (form_starts_in letters) form.labels && forms_start_in letters forms

module _ {A : Type 0} (letters text : List ℕ) where
  form_not_asked : (form : Form A) → LawfulForm form → list_all (form_starts_in letters) form.labels ≡ true
      → (form_letter_is_in (form_first_byte text) letters ≡ false) ⊎ (form_begins_with (form_first_byte text) form.labels ≡ false)
      → form.read text ≡ None
  form_not_asked form law within other = cuts_reads_none law.reads text (λ x h.
      let both = form_letter_in letters form.labels text within (law.begins text x h) in
      elim other [ inl e ↦ false≢true (sym e ∙ both.0) | inr e ↦ false≢true (sym e ∙ both.1) ])

  form_letter_asked : (forms : List (Form A)) → AllOfForms LawfulForm forms → forms_start_in letters forms ≡ true
      → letter_read forms (form_first_byte text) text ≡ first_read forms text
  form_letter_asked [] laws within = refl
  form_letter_asked (form ∷ forms) laws within =
      let parts = and_parts (list_all (form_starts_in letters) form.labels) (forms_start_in letters forms) within in
      let more = form_letter_asked forms laws.1 parts.1 in
      elim (cases_Bool (form_begins_with (form_first_byte text) form.labels)) [
        | inl is ↦ rw is (next_form form (forms_beginning (form_first_byte text) forms) text ∙ rw more (sym (next_form form forms text)))
        | inr not ↦ rw not (more ∙ sym (next_form form forms text ∙ rw (form_not_asked form laws.0 parts.0 (inr not)) refl))
      ]

  form_none_asked : (forms : List (Form A)) → AllOfForms LawfulForm forms → forms_start_in letters forms ≡ true
      → form_letter_is_in (form_first_byte text) letters ≡ false
      → first_read forms text ≡ None
  form_none_asked [] laws within e = refl
  form_none_asked (form ∷ forms) laws within e = grind (arith, and_parts, form_not_asked, form_none_asked forms laws.1)

  form_letter_chosen : (ls : List ℕ) (forms : List (Form A)) (c : ℕ) → form_letter_is_in c ls ≡ true
      → form_by_letter ls forms c text ≡ letter_read forms c text
  form_letter_chosen [] forms c e = absurd (false≢true e)
  form_letter_chosen (l ∷ ls) forms c e = elim (cases_eq c l) [
    | inl same ↦ rw (eq-eqb c l same) (ap (λ (x : ℕ). letter_read forms x text) (sym same))
    | inr other ↦ rw (ne_eqb c l other) (form_letter_chosen ls forms c (rw (ne_eqb c l other) at e))
  ]

  form_letter_unknown : (ls : List ℕ) (forms : List (Form A)) (c : ℕ) → form_letter_is_in c ls ≡ false
      → form_by_letter ls forms c text ≡ None
  form_letter_unknown [] forms c e = refl
  form_letter_unknown (l ∷ ls) forms c e = grind (arith, cases_eq, eq-eqb, ne_eqb, form_letter_unknown ls forms c)

  -- the look at the first letter changes nothing
  form_by_letter_is : (forms : List (Form A)) → AllOfForms LawfulForm forms → forms_start_in letters forms ≡ true
      → form_by_letter letters forms (form_first_byte text) text ≡ first_read forms text
  form_by_letter_is forms laws within = elim (cases_Bool (form_letter_is_in (form_first_byte text) letters)) [
    | inl is ↦ form_letter_chosen letters forms (form_first_byte text) is ∙ form_letter_asked forms laws within
    | inr not ↦ form_letter_unknown letters forms (form_first_byte text) not ∙ sym (form_none_asked forms laws within not)
  ]

-- so the table is read, whichever letter is asked
pub table_lettered : {A : Type 0} (letters : List ℕ) (forms : List (Form A)) → AllOfForms LawfulForm forms → forms_apart forms ≡ true
    → forms_start_in letters forms ≡ true → Reads (any_form forms).Is (λ text. form_by_letter letters forms (form_first_byte text) text)
table_lettered letters forms laws far within = record {
  sound = λ text x e. any_form_sound forms laws text x (sym (form_by_letter_is letters text forms laws within) ∙ e);
  complete = λ text x h. form_by_letter_is letters text forms laws within ∙ form_any_complete forms laws far text x h;
}
