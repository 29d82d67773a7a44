-- Sections that share a name (RFC 5888, section 4).
use Rattle.exchange.specs.Prelude.{AreMidsDistinct, MediaLine, is_group_listed, section_mids}
use Rattle.exchange.specs.section.Stopped.{name_of}
use Rattle.std.specs.Prelude.{◌≡◌, ℕ, true, List, Some, take, slice_get}

-- the section at a place has the name of one before it, and no two of those before it have one name
pub record IsNamedAgain (sections : List MediaLine) (at : ℕ) : Type 0 where
  pub m : MediaLine
  pub stands : slice_get sections at ≡ Some m
  pub again : is_group_listed (section_mids (take at sections)) (name_of m) ≡ true
  pub differ : AreMidsDistinct (section_mids (take at sections))
