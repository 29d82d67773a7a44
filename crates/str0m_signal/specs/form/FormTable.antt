-- Tables of forms: what a text may begin with, what it stands for, and how it is read. One form states all three.
use Rattle.std.specs.Prelude.{◌≡◌, ◌⊎◌, ◌++◌, ◌∷◌, [], ℕ, Bool, true, false, List, Option, Some, None, ◌==◌, ◌||◌, if◌then◌else◌}
use Rattle.str0m_signal.specs.Prelude.{IsNum, IsRest, PartedAddress, is_rest, num, when, ◌<|>◌, ◌>>=◌}
use Rattle.str0m_signal.specs.form.FormReading.{word_alone_read, behind, text_read, two_read, tailed_read, parted_read}
use Rattle.str0m_signal.specs.form.Forms.{Behind, IsText, TwoFormParts, IsBeforeDroppedFormTail}

-- ---- parts of a text

pub record FormPiece (A : Type 0) : Type 1 where
  pub Is : List ℕ → A → Type 0
  pub read : List ℕ → Option A

abbrev pub a_text : FormPiece (List ℕ)
a_text = record { Is = IsText; read = text_read }

abbrev pub number : ℕ → FormPiece ℕ
number limit = record { Is = IsNum limit; read = num limit }

abbrev pub two_form_pieces : {A B : Type 0} → ℕ → FormPiece A → FormPiece B → FormPiece (A × B)
two_form_pieces c first second = record { Is = TwoFormParts c first.Is second.Is; read = two_read c first.read second.read }

abbrev pub tailed_form_piece : {A : Type 0} → ℕ → FormPiece A → FormPiece A
tailed_form_piece c piece = record { Is = IsBeforeDroppedFormTail c piece.Is; read = tailed_read c piece.read }

-- two texts, with a space between them
abbrev pub two_texts : FormPiece (List ℕ × List ℕ)
two_texts = two_form_pieces 32 a_text a_text

abbrev pub parted_form_piece : {A : Type 0} → ℕ → FormPiece A → FormPiece (List A)
parted_form_piece c piece = record { Is = PartedAddress c piece.Is; read = parted_read c piece.read }

-- ---- forms of a whole text

-- the labels are what the texts may begin with, up to the end of the line
pub record Form (A : Type 0) : Type 1 where
  pub labels : List (List ℕ)
  pub Is : List ℕ → A → Type 0
  pub read : List ℕ → Option A

-- a form that says its label itself
abbrev pub own_label_form : {A : Type 0} → List ℕ → (List ℕ → A → Type 0) → (List ℕ → Option A) → Form A
own_label_form label Is read = record { labels = label ∷ []; Is = Is; read = read }

-- a label, and a piece after it
abbrev pub form_led_by : {A : Type 0} → List ℕ → FormPiece A → Form A
form_led_by label piece = own_label_form label (Behind label piece.Is) (behind label piece.read)

-- the same texts, which stand for what is made of their values
abbrev pub form_made_as : {A B : Type 0} → Form A → (A → B) → Form B
form_made_as {A} form make = record {
  labels = form.labels;
  Is = λ text y. (x : A) × form.Is text x × (y ≡ make x);
  read = λ text. form.read text >>= λ x. Some (make x);
}

abbrev pub labelled_form : {A B : Type 0} → List ℕ → FormPiece A → (A → B) → Form B
labelled_form label piece make = form_made_as (form_led_by label piece) make

-- a word alone, after which the line ends
abbrev pub word_form : {A : Type 0} → List ℕ → A → Form A
word_form name x = record { labels = (name ++ (10 ∷ [])) ∷ []; Is = λ text y. (text ≡ name) × (y ≡ x); read = word_alone_read name x }

-- P holds of one of these
abbrev pub AnyOfForms {ℓ} : {X : Type ℓ} → (X → Type 0) → List X → Type 0
AnyOfForms P [] = ⊥
AnyOfForms P (x ∷ xs) = P x ⊎ AnyOfForms P xs

abbrev pub labels_of : {A : Type 0} → List (Form A) → List (List ℕ)
labels_of [] = []
labels_of (form ∷ forms) = form.labels ++ labels_of forms

-- what is read by the first form that reads anything
abbrev pub first_read : {A : Type 0} → List (Form A) → List ℕ → Option A
first_read [] text = None
first_read (form ∷ []) text = form.read text
first_read (form ∷ other ∷ forms) text = form.read text <|> first_read (other ∷ forms) text

-- one of these forms
abbrev pub any_form : {A : Type 0} → List (Form A) → Form A
any_form forms = record { labels = labels_of forms; Is = λ text x. AnyOfForms (λ form. form.Is text x) forms; read = first_read forms }

abbrev pub word_forms_of : {A : Type 0} → List (List ℕ × A) → List (Form A)
word_forms_of [] = []
word_forms_of (row ∷ rows) = word_form row.0 row.1 ∷ word_forms_of rows

-- a table of words
abbrev pub any_word_form : {A : Type 0} → List (List ℕ × A) → Form A
any_word_form rows = any_form (word_forms_of rows)

-- each label with this piece after it
abbrev pub forms_labelled_by : {A B : Type 0} → FormPiece B → List (List ℕ × (B → A)) → List (Form A)
forms_labelled_by piece [] = []
forms_labelled_by piece (row ∷ rows) = labelled_form row.0 piece row.1 ∷ forms_labelled_by piece rows

-- a table of labels with a text after
abbrev pub texts : {A : Type 0} → List (List ℕ × (List ℕ → A)) → Form A
texts rows = any_form (forms_labelled_by a_text rows)

-- a table of labels with two texts after
abbrev pub pair_forms : {A : Type 0} → List (List ℕ × (List ℕ × List ℕ → A)) → Form A
pair_forms rows = any_form (forms_labelled_by two_texts rows)

-- any text, as it stands
abbrev pub IsUnusedForm : {A : Type 0} → (List ℕ → A) → List ℕ → A → Type 0
IsUnusedForm make text x = IsRest text × (x ≡ make text)

abbrev pub unused_read : {A : Type 0} → (List ℕ → A) → List ℕ → Option A
unused_read make text = when (is_rest text) (make text)

-- ---- the look at the first letter

-- the byte that a text begins with; an empty one is at its line's end
abbrev pub form_first_byte : List ℕ → ℕ
form_first_byte [] = 10
form_first_byte (x ∷ xs) = x

abbrev pub form_begins_with : ℕ → List (List ℕ) → Bool
form_begins_with letter [] = false
form_begins_with letter (label ∷ labels) = (form_first_byte label == letter) || form_begins_with letter labels

abbrev form_if : {A : Type 0} → Bool → Form A → List (Form A) → List (Form A)
form_if true form forms = form ∷ forms
form_if false form forms = forms

-- the forms with a label that begins with this letter
abbrev pub forms_beginning : {A : Type 0} → ℕ → List (Form A) → List (Form A)
forms_beginning letter [] = []
forms_beginning letter (form ∷ forms) = form_if (form_begins_with letter form.labels) form (forms_beginning letter forms)

abbrev pub letter_read : {A : Type 0} → List (Form A) → ℕ → List ℕ → Option A
letter_read forms letter text = first_read (forms_beginning letter forms) text

-- only the forms of the text's first letter are asked
abbrev pub form_by_letter : {A : Type 0} → List ℕ → List (Form A) → ℕ → List ℕ → Option A
form_by_letter [] forms letter text = None
form_by_letter (l ∷ letters) forms letter text = if letter == l then letter_read forms l text else form_by_letter letters forms letter text
