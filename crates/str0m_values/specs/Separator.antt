-- The characters that lines are cut at, each by its number in ASCII.
use Rattle.std.specs.Prelude.{ℕ}
use Rattle.str0m_values.specs.declared.separator.Separator.{Separator}
use Rattle.str0m_values.specs.declared.separator.Separator.TheVariants.{LineFeed, CarriageReturn, Space, Comma, Slash, Colon, Semicolon, Equals, Tilde}

abbrev pub code : Separator → ℕ
code LineFeed = 10
code CarriageReturn = 13
code Space = 32
code Comma = 44
code Slash = 47
code Colon = 58
code Semicolon = 59
code Equals = 61
code Tilde = 126
