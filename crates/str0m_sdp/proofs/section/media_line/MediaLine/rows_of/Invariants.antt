use Rattle.str0m_sdp.proofs.Common.{◌≡◌, take, filter, filter_map}
use Rattle.str0m_sdp.proofs.section.media_line.MediaLine.rows_of.Given as goal
use Rattle.str0m_sdp.specs.section.Mappings.{codec_of_type}
use Rattle.str0m_sdp.specs.section.SectionRows.{is_kept, row}
use Rattle.str0m_sdp.specs.section.TypeLines.{AreGroupsKnown}

-- what the groups have, and the rows of the types so far
abbrev pub invariant-loop-mapped : goal.invariant-loop-mapped
invariant-loop-mapped l = AreGroupsKnown l.self.attrs l.groups.items
    × (l.rows.items ≡ filter_map (λ it. row l.self (codec_of_type it))
    (filter (λ it. is_kept l.self (codec_of_type it)) (take l.mapped-index l.types)))
