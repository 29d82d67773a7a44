use Rattle.str0m_sdp.proofs.Common.{◌≡◌, take}
use Rattle.str0m_sdp.proofs.session.session_consistency.gather_mids.Given as goal
use Rattle.str0m_sdp.specs.session.SessionConsistency.{section_mids}

-- the mids of the sections so far
abbrev pub invariant-loop-section : goal.invariant-loop-section
invariant-loop-section l = l.mids.items ≡ section_mids (take l.section-index l.sections)
