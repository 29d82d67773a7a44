use Rattle.str0m_sdp.proofs.Common.{◌≡◌, length}
use Rattle.str0m_sdp.proofs.session.session_consistency.scan_shared_session_mid.Given as goal
use Rattle.str0m_sdp.specs.session.SessionConsistency.{section_mids}
use Rattle.str0m_sdp.specs.session.SessionFault.{first_mid_again}

-- no mid that was passed stands again
abbrev pub invariant-loop-section : goal.invariant-loop-section
invariant-loop-section l = first_mid_again (section_mids l.left) ≡ first_mid_again (section_mids l.initial.left)

abbrev pub decreases-loop-section : goal.decreases-loop-section
decreases-loop-section l = length l.left
