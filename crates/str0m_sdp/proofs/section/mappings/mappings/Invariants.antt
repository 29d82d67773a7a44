use Rattle.str0m_sdp.proofs.Common.{◌≡◌, take, map, filter_map}
use Rattle.str0m_sdp.proofs.section.mappings.mappings.Given as goal
use Rattle.str0m_sdp.specs.section.Mappings.{codec_of_type, mapping}

-- the mappings of the lines so far
abbrev pub invariant-loop-attr : goal.invariant-loop-attr
invariant-loop-attr l = map codec_of_type l.types.items ≡ filter_map mapping (take l.attr-index l.attrs)
