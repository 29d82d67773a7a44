use Rattle.str0m_sdp.proofs.Common.{◌≡◌, map, take}
use Rattle.str0m_sdp.proofs.section.section_rows.TypeFacts.gather.Given as goal
use Rattle.str0m_sdp.specs.section.Mappings.{codec_of_type}
use Rattle.str0m_sdp.specs.section.SectionRowsFacts.{RowTablesAreOf}

-- the tables and lines are those of the attributes so far
abbrev pub invariant-loop-attr : goal.invariant-loop-attr
invariant-loop-attr l = RowTablesAreOf (map codec_of_type l.types) (take l.attr-index l.attrs) l.self l.lines.items
    × (l.self.in_m_line ≡ l.initial.self.in_m_line)
