-- Tables by payload type.
use Rattle.std.specs.Prelude.{◌≡◌, ℕ, false, Option, get_or, length}
use Rattle.str0m_sdp.specs.Prelude.{when}
use Rattle.str0m_sdp.specs.declared.section.type_tables.TypeTable.{TypeTable}

-- the type that a table has for a type
abbrev pub type_in_table : TypeTable → ℕ → Option ℕ
type_in_table table pt = when (get_or table.is_there pt false) (get_or table.pts pt 0)

-- a table has a place for each type
pub record IsWholeTable (table : TypeTable) : Type 0 where
  pub is_there : length table.is_there ≡ 256
  pub pts : length table.pts ≡ 256
