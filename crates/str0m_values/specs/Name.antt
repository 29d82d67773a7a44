-- The bytes of a name, wherever they lie.
use Rattle.std.specs.Prelude.{ℕ, List}
use Rattle.str0m_values.specs.declared.name.NameLetters.{NameLetters}
use Rattle.str0m_values.specs.declared.name.NameLetters.TheVariants.{Short, Long}

abbrev pub name_bytes : NameLetters → List ℕ
name_bytes (Short letters) = letters.bytes
name_bytes (Long letters) = letters
