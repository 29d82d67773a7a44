use Rattle.str0m_sdp.proofs.Common.{◌≡◌, count_by, take}
use Rattle.str0m_sdp.proofs.section.consistency.counted.Given as goal
use Rattle.str0m_sdp.specs.section.Consistency.{is_mid, is_setup, is_direction}

-- those of the attributes so far
abbrev pub invariant-loop-attr : goal.invariant-loop-attr
invariant-loop-attr l = (l.mids ≡ count_by is_mid (take l.attr-index l.attrs))
    × (l.setups ≡ count_by is_setup (take l.attr-index l.attrs))
    × (l.directions ≡ count_by is_direction (take l.attr-index l.attrs))
