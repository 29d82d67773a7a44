use Rattle.str0m_sdp.proofs.Common.{◌≡◌, Some, length}
use Rattle.str0m_sdp.proofs.section.consistency.check_section_values.Given as goal
use Rattle.str0m_sdp.specs.session.Fault.{values_fault}

-- no value that was passed clashes
abbrev pub invariant-loop-value : goal.invariant-loop-value
invariant-loop-value l = values_fault l.mid l.pt l.left (Some l.first) ≡ values_fault l.mid l.pt l.initial.left (Some l.first)

abbrev pub decreases-loop-value : goal.decreases-loop-value
decreases-loop-value l = length l.left
