use Rattle.str0m_sdp.proofs.Common.{filter_map, take, AllZip}
use Rattle.str0m_sdp.proofs.section.media_line.MediaLine.rids.Given as goal
use Rattle.str0m_sdp.specs.section.SectionAccessors.{IsRidOf, rid_name_of}

-- the names so far
abbrev pub invariant-loop-attr : goal.invariant-loop-attr
invariant-loop-attr l = AllZip IsRidOf (filter_map rid_name_of (take l.attr-index l.attr-items)) l.rids.items
