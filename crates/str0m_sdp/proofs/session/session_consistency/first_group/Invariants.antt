use Rattle.str0m_sdp.proofs.Common.{◌≡◌, length}
use Rattle.str0m_sdp.proofs.session.session_consistency.first_group.Given as goal
use Rattle.str0m_sdp.specs.session.SessionConsistency.{first_group}

-- no group was passed
abbrev pub invariant-loop-attr : goal.invariant-loop-attr
invariant-loop-attr l = first_group l.left ≡ first_group l.initial.left

abbrev pub decreases-loop-attr : goal.decreases-loop-attr
decreases-loop-attr l = length l.left
