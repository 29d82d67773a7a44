-- Reading of a header's lines as functions.
use Rattle.std.specs.Prelude.{ℕ, List, [], ◌∷◌, Option, Some, None, codes, bytes_eq}
use Rattle.str0m_signal.specs.Prelude.{cut, is_rest, strip, when, ◌<|>◌, ◌>>=◌}
use Rattle.str0m_signal.specs.form.FormReading.{digits_read}
use Rattle.str0m_signal.specs.line.Lines.{Line}
use Rattle.str0m_signal.specs.line.LinesReading.{line_read}
use Rattle.str0m_signal.specs.session.SectionReading.{field_read}

abbrev pub exact_read : List ℕ → List ℕ → Option (List ℕ)
exact_read word content = when (bytes_eq content word) word

abbrev pub origin_read : List ℕ → Option ℕ
origin_read content = do
  body ← strip (codes "o=") content
  name ← cut 32 body
  word ← when (is_rest name.0) name.0
  number ← cut 32 name.1
  id ← digits_read 18446744073709551615 number.0
  more ← when (is_rest number.1) number.1
  Some id

abbrev pub one_field_read : List (List ℕ) → List ℕ → Option (List ℕ)
one_field_read [] content = None
one_field_read (letter ∷ letters) content = field_read letter content <|> one_field_read letters content

abbrev pub info_read : List ℕ → Option (List ℕ)
info_read content = one_field_read (codes "i=" ∷ codes "u=" ∷ codes "e=" ∷ codes "p=" ∷ codes "c=" ∷ codes "z=" ∷ codes "k=" ∷ []) content

abbrev pub opening_read : List Line → Option (ℕ × List Line)
opening_read lines = do
  version ← line_read (exact_read (codes "v=0")) lines
  origin ← line_read origin_read version.1
  name ← line_read (field_read (codes "s=")) origin.1
  Some (origin.0, name.1)
