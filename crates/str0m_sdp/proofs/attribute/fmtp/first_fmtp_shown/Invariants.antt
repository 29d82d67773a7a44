use Rattle.str0m_sdp.proofs.Common.{◌≡◌, filter, length}
use Rattle.str0m_sdp.proofs.attribute.fmtp.first_fmtp_shown.Given as goal
use Rattle.str0m_sdp.specs.attribute.Fmtp.{is_fmtp_shown}

-- no value that is shown was passed
abbrev pub invariant-loop-first : goal.invariant-loop-first
invariant-loop-first l = filter is_fmtp_shown l.left ≡ filter is_fmtp_shown l.initial.left

abbrev pub decreases-loop-first : goal.decreases-loop-first
decreases-loop-first l = length l.left
