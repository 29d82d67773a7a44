-- Reading of lists of words as functions.
use Rattle.std.specs.Char.{digit_value}
use Rattle.std.specs.Prelude.{ℕ, ◌+◌, ◌*◌, ◌==◌, nat_lt, List, [], ◌∷◌, Option, Some, None, codes, if◌then◌else◌}
use Rattle.str0m_signal.specs.Prelude.{text_beginning_of, cut, lacks, strip, when, ◌>>=◌}
use Rattle.str0m_signal.specs.form.FormReading.{text_read, two_read, parted_read}

abbrev pub word_text_read : List ℕ → Option (List ℕ)
word_text_read text = if lacks 32 text then text_read text else None

abbrev pub name_read : List ℕ → Option (List ℕ)
name_read text = word_text_read text >>= λ word. Some (text_beginning_of 16 word)

abbrev pub digit_read : ℕ → Option ℕ
digit_read c = when (nat_lt (digit_value c) 16) (digit_value c)

abbrev pub hex_pair_read : List ℕ → Option ℕ
hex_pair_read [] = None
hex_pair_read (high ∷ []) = None
hex_pair_read (high ∷ low ∷ []) = do
  first ← digit_read high
  second ← digit_read low
  Some (first * 16 + second)
hex_pair_read (high ∷ low ∷ more ∷ text) = None

-- the text without the space at its end
abbrev pub without_word_space : List ℕ → List ℕ
without_word_space [] = []
without_word_space (x ∷ []) = if x == 32 then [] else x ∷ []
without_word_space (x ∷ y ∷ ys) = x ∷ without_word_space (y ∷ ys)

-- the word and the names, where the text was cut at a space if it has one
abbrev pub group_names_after : List ℕ → Option (List ℕ × List ℕ) → Option (List ℕ × List (List ℕ))
group_names_after text None = text_read text >>= λ typ. Some (typ, [])
group_names_after text (Some parts) = do
  typ ← text_read parts.0
  names ← parted_read 32 name_read parts.1
  Some (typ, names)

abbrev pub names_read : List ℕ → Option (List ℕ × List (List ℕ))
names_read text = group_names_after text (cut 32 text)

abbrev pub group_fields_read : List ℕ → Option (List ℕ × List (List ℕ))
group_fields_read text = names_read (without_word_space text)

-- the text after its first space, where it begins with one
abbrev pub behind_word_space : List ℕ → Option (List ℕ) → List ℕ
behind_word_space text None = text
behind_word_space text (Some rest) = rest

abbrev pub msid_semantic_fields_read : List ℕ → Option (List ℕ × List (List ℕ))
msid_semantic_fields_read text = two_read 32 text_read (parted_read 32 word_text_read) (behind_word_space text (strip (codes " ") text))
