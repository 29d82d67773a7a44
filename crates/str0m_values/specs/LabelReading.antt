-- Reading of words after labels as functions. The relations are in Labels.
use Rattle.std.specs.Prelude.{List, ℕ, Option, Some, None}
use Rattle.str0m_values.specs.Cuts.{◌>>=◌, before, strip, when, is_rest}

-- the word at the front, and what stands after it
abbrev pub front_word_read : List ℕ → Option (List ℕ × List ℕ)
front_word_read text = do
  word ← when (is_rest (before 32 text)) (before 32 text)
  rest ← strip word text
  Some (word, rest)

-- the word after a label, and what stands after it
abbrev pub labelled_read : List ℕ → List ℕ → Option (List ℕ × List ℕ)
labelled_read label text = strip label text >>= front_word_read

-- the same with the word's value
abbrev pub labelled_part_read : {B : Type 0} → List ℕ → (List ℕ → Option B) → List ℕ → Option (B × List ℕ)
labelled_part_read label f text = do
  word ← labelled_read label text
  x ← f word.0
  Some (x, word.1)

-- the word where the label stands, else nothing, and what stands after it
abbrev pub optional_label_after : List ℕ → Option (List ℕ) → Option (Option (List ℕ) × List ℕ)
optional_label_after text None = Some (None, text)
optional_label_after text (Some body) = front_word_read body >>= λ word. Some (Some word.0, word.1)

abbrev pub optional_label_read : List ℕ → List ℕ → Option (Option (List ℕ) × List ℕ)
optional_label_read label text = optional_label_after text (strip label text)

-- the value of a word that is there
abbrev pub word_value_read : {B : Type 0} → (List ℕ → Option B) → Option (List ℕ) → Option (Option B)
word_value_read f None = Some None
word_value_read f (Some word) = f word >>= λ x. Some (Some x)
