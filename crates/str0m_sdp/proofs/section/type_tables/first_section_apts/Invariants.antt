use Rattle.str0m_sdp.proofs.Common.{◌≡◌, ℕ, take}
use Rattle.str0m_sdp.proofs.section.type_tables.first_section_apts.Given as goal
use Rattle.str0m_sdp.specs.section.Consistency.{first_section_apt}
use Rattle.str0m_sdp.specs.section.TypeTables.{IsWholeTable, type_in_table}

-- each type has the first that is named so far
abbrev pub invariant-loop-attr : goal.invariant-loop-attr
invariant-loop-attr l = IsWholeTable l.firsts × ((pt : ℕ) → type_in_table l.firsts pt ≡ first_section_apt pt (take l.attr-index l.attrs))
