use Rattle.str0m_sdp.proofs.Common.{◌≡◌, filter_map, length}
use Rattle.str0m_sdp.proofs.section.consistency.check_section_apts.Given as goal
use Rattle.str0m_sdp.specs.Common.{first}
use Rattle.str0m_sdp.specs.session.Fault.{apt_fault}

-- no line that was passed clashes
abbrev pub invariant-loop-attr : goal.invariant-loop-attr
invariant-loop-attr l = first (filter_map (apt_fault l.attrs l.mid) l.left) ≡ first (filter_map (apt_fault l.attrs l.mid) l.initial.left)

abbrev pub decreases-loop-attr : goal.decreases-loop-attr
decreases-loop-attr l = length l.left
