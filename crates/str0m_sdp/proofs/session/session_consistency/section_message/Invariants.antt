use Rattle.str0m_sdp.proofs.Common.{◌≡◌, length}
use Rattle.str0m_sdp.proofs.session.session_consistency.section_message.Given as goal
use Rattle.str0m_sdp.specs.session.SessionFault.{sections_message}

-- no section that was passed has a message
abbrev pub invariant-loop-section : goal.invariant-loop-section
invariant-loop-section l = sections_message l.left ≡ sections_message l.initial.left

abbrev pub decreases-loop-section : goal.decreases-loop-section
decreases-loop-section l = length l.left
