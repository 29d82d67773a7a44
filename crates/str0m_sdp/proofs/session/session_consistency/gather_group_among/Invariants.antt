use Rattle.str0m_sdp.proofs.Common.{◌≡◌, filter_map, take}
use Rattle.str0m_sdp.proofs.session.session_consistency.gather_group_among.Given as goal
use Rattle.str0m_sdp.specs.session.OrderedMids.{part_mid}

-- the mids of the sections so far
abbrev pub invariant-loop-section : goal.invariant-loop-section
invariant-loop-section l = l.mids.items ≡ filter_map (part_mid l.names) (take l.section-index l.sections)
