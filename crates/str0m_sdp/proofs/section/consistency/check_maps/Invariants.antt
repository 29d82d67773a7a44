use Rattle.str0m_sdp.proofs.Common.{◌≡◌, filter_map, length}
use Rattle.str0m_sdp.proofs.section.consistency.check_maps.Given as goal
use Rattle.str0m_sdp.specs.Common.{first}
use Rattle.str0m_sdp.specs.session.Fault.{map_fault}

-- no type that was passed has a fault
abbrev pub invariant-loop-pt : goal.invariant-loop-pt
invariant-loop-pt l = first (filter_map (map_fault l.attrs l.mid) l.left) ≡ first (filter_map (map_fault l.attrs l.mid) l.initial.left)

abbrev pub decreases-loop-pt : goal.decreases-loop-pt
decreases-loop-pt l = length l.left
