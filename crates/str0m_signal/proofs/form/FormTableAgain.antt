-- The attributes of a table are printed as they were read: from the laws of each form.
use Rattle.str0m_signal.proofs.Common.{candidate_num_both, ◌≡◌, ◌≤◌, ◌<◌, ◌^◌, ℕ, Bool, true, List, [], ◌∷◌, ◌++◌, map, refl, sym, subst}
use Rattle.str0m_signal.proofs.Common.{lit≤, inl}
use Rattle.str0m_signal.proofs.Common.{inr, digit_value, decimal, attribute_line}
use Rattle.str0m_signal.proofs.form.FormLaws.{text_both, form_two_both, form_tailed_both}
use Rattle.str0m_signal.proofs.form.FormPiecesAgain.{Again, text_again, num_again, two_again, tailed_again, behind_again}
use Rattle.str0m_signal.proofs.form.FormTableLaws.{ReadableFormPiece, LawfulForm, AllOfForms, labelled_form_lawful, word_forms_lawful}
use Rattle.str0m_signal.proofs.form.FormTableLaws.{all_labelled_forms_lawful}
use Rattle.str0m_signal.proofs.form.FormTableLaws.{forms_apart}
use Rattle.str0m_signal.proofs.form.FormTableLaws.{heads_same, form_tail_is}
use Rattle.str0m_signal.proofs.line.AttributesPrinted.{HoldsNoEnd}
use Rattle.str0m_signal.proofs.line.WordsCharacterStarts.{StartsWithin}
use Rattle.str0m_signal.specs.form.FormTable.{FormPiece, Form, word_form, word_forms_of, any_word_form, form_made_as, labelled_form}
use Rattle.str0m_signal.specs.form.FormTable.{forms_labelled_by}
use Rattle.str0m_signal.specs.form.FormTable.{any_form}
use Rattle.str0m_signal.specs.form.FormTable.{a_text, number}
use Rattle.str0m_signal.specs.form.FormTable.{two_form_pieces, two_texts, tailed_form_piece, form_led_by}

-- ---- pieces

-- a piece is read exactly where it holds, and printed as it was read
pub record KeptFormPiece {B : Type 0} (piece : FormPiece B) (print : B → List ℕ) : Type 0 where
  pub reads : ReadableFormPiece piece
  pub again : Again piece.Is print

pub text_kept : KeptFormPiece a_text (λ x. x)
text_kept = record { reads = text_both; again = text_again }

pub number_kept : (limit : ℕ) → limit < 2 ^ 64 → KeptFormPiece (number limit) decimal
number_kept limit small = record { reads = candidate_num_both limit; again = num_again limit small }

pub two_form_pieces_kept : {A B : Type 0} {first : FormPiece A} {second : FormPiece B} {p : A → List ℕ} {q : B → List ℕ} (c : ℕ)
    → 16 ≤ digit_value c
    → KeptFormPiece first p → KeptFormPiece second q → KeptFormPiece (two_form_pieces c first second) (λ pair. p pair.0 ++ (c ∷ q pair.1))
two_form_pieces_kept c far a b = record { reads = form_two_both c a.reads b.reads; again = two_again c far a.again b.again }

pub form_pair_kept : KeptFormPiece two_texts (λ pair. pair.0 ++ (32 ∷ pair.1))
form_pair_kept = two_form_pieces_kept 32 (lit≤ tt) text_kept text_kept

pub tailed_form_piece_kept : {A : Type 0} {piece : FormPiece A} {p : A → List ℕ} (c : ℕ) → 16 ≤ digit_value c → KeptFormPiece piece p
    → KeptFormPiece (tailed_form_piece c piece) p
tailed_form_piece_kept c far kept = record { reads = form_tailed_both c kept.reads; again = tailed_again kept.again c far }

-- ---- forms

-- what has the form holds no line end as it is printed
pub quiet_again : {B : Type 0} {F : List ℕ → B → Type 0} {p : B → List ℕ} → Again F p → (text : List ℕ) (value : B) → HoldsNoEnd text
    → F text value → HoldsNoEnd (p value)
quiet_again again text value quiet h = (again.lacks 10 (lit≤ tt) text value h quiet.0, again.lacks 13 (lit≤ tt) text value h quiet.1)

-- what was read as an attribute that fits prints a line whose text stands for it again; and each attribute of the form passes the test
pub record PrintsAgain {A : Type 0} (Fits : A → Type 0) (line : A → List ℕ) (test : A → Bool) (form : Form A) : Type 0 where
  pub again : (text : List ℕ) (attr : A) → HoldsNoEnd text → StartsWithin 3 text → Fits attr → form.Is text attr
      → (new : List ℕ) × (line attr ≡ attribute_line new) × HoldsNoEnd new × form.Is new attr
  pub passes : (text : List ℕ) (attr : A) → form.Is text attr → test attr ≡ true

-- and it is read exactly where it holds
pub record WholeForm {A : Type 0} (Fits : A → Type 0) (line : A → List ℕ) (test : A → Bool) (form : Form A) : Type 0 where
  pub lawful : LawfulForm form
  pub prints : PrintsAgain Fits line test form

pub form_laws_of : {X : Type 1} (P Q : X → Type 0) → ((x : X) → P x → Q x) → (xs : List X) → AllOfForms P xs → AllOfForms Q xs
form_laws_of P Q each [] all = tt
form_laws_of P Q each (x ∷ xs) all = (each x all.0, form_laws_of P Q each xs all.1)

module _ {A : Type 0} {Fits : A → Type 0} {line : A → List ℕ} {test : A → Bool} where
  pub made_again : {B : Type 0} (form : Form B) (make : B → A) (print : B → List ℕ)
      → ((text : List ℕ) (x : B) → HoldsNoEnd text → StartsWithin 3 text → Fits (make x) → form.Is text x
      → form.Is (print x) x × HoldsNoEnd (print x))
      → ((x : B) → form.Is (print x) x → line (make x) ≡ attribute_line (print x)) → ((x : B) → test (make x) ≡ true)
      → PrintsAgain Fits line test (form_made_as form make)
  made_again form make print back prints passes = record {
    again = λ text attr quiet starts fits h.
        let is = back text h.0 quiet starts (subst Fits h.2 fits) h.1 in
        (print h.0, subst (λ (a : A). line a ≡ attribute_line (print h.0)) (sym h.2) (prints h.0 is.0), is.1, (h.0, is.0, h.2));
    passes = λ text attr h. subst (λ (a : A). test a ≡ true) (sym h.2) (passes h.0);
  }

  pub form_entire : {form : Form A} → LawfulForm form → PrintsAgain Fits line test form → WholeForm Fits line test form
  form_entire lawful prints = record { lawful = lawful; prints = prints }

  pub labelled_form_whole : {B : Type 0} {piece : FormPiece B} {print : B → List ℕ} (label : List ℕ) (make : B → A)
      → KeptFormPiece piece print
      → ((x : B) → line (make x) ≡ attribute_line (label ++ print x)) → ((x : B) → test (make x) ≡ true)
      → WholeForm Fits line test (labelled_form label piece make)
  labelled_form_whole {piece} {print} label make kept prints passes =
      let behind = behind_again kept.again label in
      form_entire (labelled_form_lawful label make kept.reads)
      (made_again (form_led_by label piece) make (λ x. label ++ print x)
      (λ text x quiet starts fits h. (behind.form text x h, quiet_again behind text x quiet h))
      (λ x h. prints x) passes)

  word_prints_again : (name : List ℕ) (x : A) → line x ≡ attribute_line name → test x ≡ true → PrintsAgain Fits line test (word_form name x)
  word_prints_again name x prints passes = record {
    again = λ text attr quiet starts fits h.
        (name, subst (λ (a : A). line a ≡ attribute_line name) (sym h.1) prints, subst HoldsNoEnd h.0 quiet, (refl, h.1));
    passes = λ text attr h. subst (λ (a : A). test a ≡ true) (sym h.1) passes;
  }

  pub any_again : (forms : List (Form A)) → AllOfForms (PrintsAgain Fits line test) forms → PrintsAgain Fits line test (any_form forms)
  any_again [] laws = record { again = λ text attr quiet starts fits h. absurd h; passes = λ text attr h. absurd h }
  any_again (form ∷ forms) laws =
      let more = any_again forms laws.1 in
      record {
        again = λ text attr quiet starts fits h. elim h [
          | inl here ↦ let p = laws.0.again text attr quiet starts fits here in (p.0, p.1, p.2, inl p.3)
          | inr there ↦ let p = more.again text attr quiet starts fits there in (p.0, p.1, p.2, inr p.3)
        ];
        passes = λ text attr h. elim h [ inl here ↦ laws.0.passes text attr here | inr there ↦ more.passes text attr there ];
      }

-- each word is what its attribute prints, which passes the test: one fact of a table, which is computed
abbrev AreWordForms : {A : Type 0} → (A → List ℕ) → (A → Bool) → List (List ℕ × A) → Type 0
AreWordForms line test rows = map {B = List ℕ × Bool} (λ row. (line row.1, test row.1)) rows
    ≡ map {B = List ℕ × Bool} (λ row. (attribute_line row.0, true)) rows

-- and likewise each label with a value after it
abbrev AreLabelledForms : {A V : Type 0} → (V → List ℕ) → (A → List ℕ) → (A → Bool) → List (List ℕ × (V → A)) → Type 0
AreLabelledForms {V} print line test rows =
    (x : V) → map {B = List ℕ × Bool} (λ row. (line (row.1 x), test (row.1 x))) rows
    ≡ map {B = List ℕ × Bool} (λ row. (attribute_line (row.0 ++ print x), true)) rows

module _ {A : Type 0} (Fits : A → Type 0) (line : A → List ℕ) (test : A → Bool) where
  form_words_all : (rows : List (List ℕ × A)) → AreWordForms line test rows → AllOfForms (PrintsAgain Fits line test) (word_forms_of rows)
  form_words_all [] e = tt
  form_words_all (row ∷ rows) e =
      let here : (line row.1, test row.1) ≡ (attribute_line row.0, true) = heads_same _ _ _ _ e in
      (word_prints_again row.0 row.1 (λ i. (here i).0) (λ i. (here i).1), form_words_all rows (form_tail_is _ _ _ _ e))

  labelled_forms_all : {V : Type 0} {piece : FormPiece V} {print : V → List ℕ} → KeptFormPiece piece print
      → (rows : List (List ℕ × (V → A)))
      → AreLabelledForms print line test rows → AllOfForms (PrintsAgain Fits line test) (forms_labelled_by piece rows)
  labelled_forms_all kept [] e = tt
  labelled_forms_all {V} {piece} {print} kept (row ∷ rows) e =
      let here : (x : V) → (line (row.1 x), test (row.1 x)) ≡ (attribute_line (row.0 ++ print x), true) = λ x. heads_same _ _ _ _ (e x) in (
        (labelled_form_whole row.0 row.1 kept (λ x i. (here x i).0) (λ x i. (here x i).1)).prints,
        labelled_forms_all kept rows (λ x. form_tail_is _ _ _ _ (e x)),
      )

module _ {A : Type 0} {Fits : A → Type 0} {line : A → List ℕ} {test : A → Bool} where
  pub form_words_whole : (rows : List (List ℕ × A)) → forms_apart (word_forms_of rows) ≡ true → AreWordForms line test rows
      → WholeForm Fits line test (any_word_form rows)
  form_words_whole rows far e = form_entire (word_forms_lawful rows far)
      (any_again (word_forms_of rows) (form_words_all Fits line test rows e))

  pub all_labelled_forms_whole : {V : Type 0} {piece : FormPiece V} {print : V → List ℕ} → KeptFormPiece piece print
      → (rows : List (List ℕ × (V → A)))
      → forms_apart (forms_labelled_by piece rows) ≡ true → AreLabelledForms print line test rows
      → WholeForm Fits line test (any_form (forms_labelled_by piece rows))
  all_labelled_forms_whole {V} {piece} {print} kept rows far e =
      form_entire (all_labelled_forms_lawful piece kept.reads rows far)
      (any_again (forms_labelled_by piece rows) (labelled_forms_all Fits line test kept rows e))
