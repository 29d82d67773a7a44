use Rattle.str0m_sdp.proofs.Common.{◌≡◌, filter_map, map, take}
use Rattle.str0m_sdp.proofs.section.media_line.MediaLine.extmaps.Given as goal
use Rattle.str0m_sdp.specs.section.SectionAccessors.{ext_map_at, ext_map_of}

-- the extensions so far
abbrev pub invariant-loop-attr : goal.invariant-loop-attr
invariant-loop-attr l = map ext_map_at l.maps.items ≡ filter_map ext_map_of (take l.attr-index l.attr-items)
