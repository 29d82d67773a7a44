use Rattle.str0m_sdp.proofs.Common.{◌≡◌, length}
use Rattle.str0m_sdp.proofs.section.type_tables.section_apt_among.Given as goal
use Rattle.str0m_sdp.specs.section.Consistency.{section_apt_among}

-- none that was passed names a type
abbrev pub invariant-loop-value : goal.invariant-loop-value
invariant-loop-value l = section_apt_among l.left ≡ section_apt_among l.initial.left

abbrev pub decreases-loop-value : goal.decreases-loop-value
decreases-loop-value l = length l.left
