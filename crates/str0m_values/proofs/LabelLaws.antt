-- Words after labels are read both ways.
use Rattle.str0m_values.proofs.Common.{◌≡◌, ◌⊎◌, ℕ, List, [], ◌∷◌, ◌++◌, length, drop, false, Option, Some, None, refl, sym, ap, ◌∙◌, inl}
use Rattle.str0m_values.proofs.Common.{inr, arith, append-nil, append_assoc, AllByRecursion, ltb-true, ◌==◌}
use Rattle.str0m_values.proofs.CutLaws.{cut_before_front, cut_before_lacks, strip_at, strip_before, strip_found}
use Rattle.str0m_values.proofs.CutsBothWays.{Reads, cuts_some_is}
use Rattle.str0m_values.proofs.CutsNumLaws.{cuts_when_some, num_rest_true}
use Rattle.str0m_values.specs.Cuts.{◌>>=◌, before, strip}
use Rattle.str0m_values.specs.CutsParts.{IsWord}
use Rattle.str0m_values.specs.LabelReading.{front_word_read, labelled_read, labelled_part_read, optional_label_after, optional_label_read}
use Rattle.str0m_values.specs.LabelReading.{word_value_read}
use Rattle.str0m_values.specs.Labels.{IsSameLabel, IsLabelled, IsOptionalLabelled}

-- ---- steps

pub label_option_bound : {A B C : Type 0} (o : Option A) (f : A → Option B) (y : B) → (o >>= f) ≡ Some y
    → ((x : A) → o ≡ Some x → f x ≡ Some y → C) → C
label_option_bound o f y e then = grind arith

pub label_bind_is : {A B : Type 0} (o : Option A) (x : A) (f : A → Option B) (y : Option B) → o ≡ Some x → f x ≡ y → (o >>= f) ≡ y
label_bind_is o x f y e more = ap (λ p. p >>= f) e ∙ more

-- ---- what may stand after a part

-- nothing, or text that begins with one of the labels
abbrev pub StartsWithLabel : List (List ℕ) → List ℕ → Type 0
StartsWithLabel [] text = text ≡ []
StartsWithLabel (label ∷ labels) text = ((more : List ℕ) × (text ≡ label ++ more)) ⊎ StartsWithLabel labels text

-- what holds of nothing and of what begins with a label
pub label_starts_all : (P : List ℕ → Type 0) (labels : List (List ℕ)) → P []
    → AllByRecursion (λ label. (more : List ℕ) → P (label ++ more)) labels → (text : List ℕ) → StartsWithLabel labels text → P text
label_starts_all P [] none all text s = rw s none
label_starts_all P (label ∷ labels) none all text s = elim s
    [ inl h ↦ rw h.1 (all.0 h.0) | inr h ↦ label_starts_all P labels none all.1 text h ]

pub label_starts_optional : {B : Type 0} (F : List ℕ → B → Type 0) (label : List ℕ) (labels : List (List ℕ)) (part rest : List ℕ)
    (x : Option B)
    → IsOptionalLabelled label F part x → StartsWithLabel labels rest → StartsWithLabel (label ∷ labels) (part ++ rest)
label_starts_optional F label labels part rest x h s = grind (arith, append_assoc)

-- the word before ends there
abbrev pub IsWordEnd : List ℕ → Type 0
IsWordEnd rest = before 32 rest ≡ []

-- and no part with this label follows
abbrev pub EndsWithoutLabel : List ℕ → List ℕ → Type 0
EndsWithoutLabel label rest = IsWordEnd rest × (strip label rest ≡ None)

-- ---- parts

-- p reads a part with its value by F from the front of a text, where After holds of what follows
pub record LabelFront {B : Type 0} (F : List ℕ → B → Type 0) (Behind : List ℕ → Type 0) (p : List ℕ → Option (B × List ℕ)) : Type 0 where
  pub sound : (text : List ℕ) (x : B × List ℕ) → p text ≡ Some x → (part : List ℕ) × (text ≡ part ++ x.1) × F part x.0
  pub complete : (part : List ℕ) (x : B) (rest : List ℕ) → F part x → Behind rest → p (part ++ rest) ≡ Some (x, rest)

front_word_sound : (text : List ℕ) (x : List ℕ × List ℕ) → front_word_read text ≡ Some x → (text ≡ x.0 ++ x.1) × IsWord x.0
front_word_sound text x e = grind (arith, label_option_bound, cuts_when_some, ltb-true, cut_before_lacks, cuts_some_is, strip_found)

word_complete : (word rest : List ℕ) → IsWord word → IsWordEnd rest → front_word_read (word ++ rest) ≡ Some (word, rest)
word_complete word rest h ends = grind (arith, cut_before_front, append-nil, num_rest_true, strip_at)

-- the word that isn't empty, and what stands after it
pub word_before : (text : List ℕ) → false ≡ (length (before 32 text) == 0)
    → Some (before 32 text, drop (length (before 32 text)) text) ≡ front_word_read text
word_before text some = grind (arith, num_rest_true, strip_before)

pub labelled_sound : (label text : List ℕ) (x : List ℕ × List ℕ) → labelled_read label text ≡ Some x
    → (text ≡ (label ++ x.0) ++ x.1) × IsWord x.0
labelled_sound label text x e =
    label_option_bound (strip label text) _ _ e λ body e₁ k.
    let word = front_word_sound body x k in
    (strip_found label text body e₁ ∙ ap (λ (t : List ℕ). label ++ t) word.0 ∙ sym (append_assoc label x.0 x.1), word.1)

pub labelled_complete : (label word rest : List ℕ) → IsWord word → IsWordEnd rest
    → labelled_read label ((label ++ word) ++ rest) ≡ Some (word, rest)
labelled_complete label word rest h ends = rw (append_assoc label word rest, strip_at label (word ++ rest)) (word_complete word rest h ends)

pub labelled_front : (label : List ℕ) → LabelFront (IsLabelled label IsSameLabel) IsWordEnd (labelled_read label)
labelled_front label = record {
  sound = λ text x e. let found = labelled_sound label text x e in (label ++ x.0, found.0, (x.0, refl, found.1, refl));
  complete = λ part x rest h ends. ap (λ (t : List ℕ). labelled_read label (t ++ rest)) h.1 ∙ labelled_complete label h.0 rest h.2 ends
      ∙ ap (λ (t : List ℕ). Some (t, rest)) (sym h.3);
}

pub labelled_part_front : {B : Type 0} {F : List ℕ → B → Type 0} {f : List ℕ → Option B} (label : List ℕ) → Reads F f
    → LabelFront (IsLabelled label F) IsWordEnd (labelled_part_read label f)
labelled_part_front {f} label reads = record {
  sound = λ text x e.
      label_option_bound (labelled_read label text) _ _ e λ word e₁ k.
      label_option_bound (f word.0) _ _ k λ y e₂ same.
      let found = labelled_sound label text word e₁ in
      rw (← cuts_some_is (y, word.1) x same) (label ++ word.0, found.0, (word.0, refl, found.1, reads.sound word.0 y e₂));
  complete = λ part x rest h ends.
      ap (λ (t : List ℕ). labelled_part_read label f (t ++ rest)) h.1
      ∙ label_bind_is _ _ _ _ (labelled_complete label h.0 rest h.2 ends) (label_bind_is _ _ _ _ (reads.complete h.0 x h.3) refl);
}

optional_label_sound : (label text : List ℕ) (x : Option (List ℕ) × List ℕ) (o : Option (List ℕ)) → strip label text ≡ o
    → optional_label_after text o ≡ Some x → (part : List ℕ) × (text ≡ part ++ x.1) × IsOptionalLabelled label IsSameLabel part x.0
optional_label_sound label text x None is e = rw (← cuts_some_is (None, text) x e) ([], refl, refl)
optional_label_sound label text x (Some body) is e =
    label_option_bound (front_word_read body) _ _ e λ word e₁ same.
    let found = front_word_sound body word e₁ in
    let text-is = strip_found label text body is ∙ ap (λ (t : List ℕ). label ++ t) found.0 ∙ sym (append_assoc label word.0 word.1) in
    rw (← cuts_some_is (Some word.0, word.1) x same) (label ++ word.0, text-is, (word.0, refl, found.1, refl))

optional_label_complete : (label part : List ℕ) (x : Option (List ℕ)) (rest : List ℕ) → IsOptionalLabelled label IsSameLabel part x
    → EndsWithoutLabel label rest
    → optional_label_read label (part ++ rest) ≡ Some (x, rest)
optional_label_complete label part x rest h ends = grind (arith, append_assoc, strip_at, label_bind_is, word_complete)

pub optional_label_front : (label : List ℕ)
    → LabelFront (IsOptionalLabelled label IsSameLabel) (EndsWithoutLabel label) (optional_label_read label)
optional_label_front label = grind (arith, optional_label_sound, optional_label_complete)

-- a word and its value
pub label_value_sound : {B : Type 0} {F : List ℕ → B → Type 0} {f : List ℕ → Option B} → Reads F f
    → (label part : List ℕ) (word : Option (List ℕ)) (x : Option B) → IsOptionalLabelled label IsSameLabel part word
    → word_value_read f word ≡ Some x
    → IsOptionalLabelled label F part x
label_value_sound reads label part None x h e = rw (← cuts_some_is None x e) h
label_value_sound {f} reads label part (Some word) x h e = grind arith
