-- The bytes of a text, wherever they lie.
use Rattle.std.specs.Prelude.{ℕ, List, string_bytes}
use Rattle.str0m_values.specs.KnownExtension.{known_uri}
use Rattle.str0m_values.specs.declared.text.TextLetters.{TextLetters}
use Rattle.str0m_values.specs.declared.text.TextLetters.TheVariants.{Short, Long, Known}

abbrev pub bytes_of : TextLetters → List ℕ
bytes_of (Short letters) = letters.bytes
bytes_of (Long letters) = string_bytes letters
bytes_of (Known extension) = known_uri extension
