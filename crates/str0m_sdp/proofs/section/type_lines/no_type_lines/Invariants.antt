use Rattle.str0m_sdp.proofs.Common.{◌≤◌, length, ◌-◌}
use Rattle.str0m_sdp.proofs.section.TypeLineLaws.{AreTypeLinesEmpty}
use Rattle.str0m_sdp.proofs.section.type_lines.no_type_lines.Given as goal

-- the groups so far have no lines
abbrev pub invariant-loop-alloc : goal.invariant-loop-alloc
invariant-loop-alloc l = (length l.groups.items ≤ 256) × AreTypeLinesEmpty l.groups.items

abbrev pub decreases-loop-alloc : goal.decreases-loop-alloc
decreases-loop-alloc l = 256 - length l.groups.items
