use Rattle.str0m_sdp.proofs.Common.{take}
use Rattle.str0m_sdp.proofs.session.ordered_mids.mid_names_of.Given as goal
use Rattle.str0m_sdp.specs.session.OrderedMids.{HoldsMids}

-- the mids so far by name
abbrev pub invariant-loop-mid : goal.invariant-loop-mid
invariant-loop-mid l = HoldsMids l.names (take l.mid-index l.mids)
