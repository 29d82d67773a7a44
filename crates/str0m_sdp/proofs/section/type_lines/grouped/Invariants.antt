use Rattle.str0m_sdp.proofs.Common.{take}
use Rattle.str0m_sdp.proofs.section.type_lines.grouped.Given as goal
use Rattle.str0m_sdp.specs.section.TypeLines.{AreGrouped}

-- the lines so far are in their groups
abbrev pub invariant-loop-number : goal.invariant-loop-number
invariant-loop-number l = AreGrouped (take l.number-index l.lines) l.groups.items
