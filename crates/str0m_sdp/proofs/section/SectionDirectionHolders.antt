-- Where a section has a mid and a direction.
use Rattle.str0m_sdp.proofs.Common.{arith, ◌≡◌, ◌<◌, true, List, filter_map, count_by, is_some, ◌↔◌}
use Rattle.str0m_sdp.proofs.section.SectionAccessorsLists.{accessor_first_counted, accessor_first_set, accessor_first_within}
use Rattle.str0m_sdp.specs.Common.{first}
use Rattle.str0m_sdp.specs.declared.attribute.MediaAttribute.{MediaAttribute}
use Rattle.str0m_sdp.specs.section.Consistency.{is_mid, is_direction, mid_of}
use Rattle.str0m_sdp.specs.section.SectionDirection.{direction_of, section_direction, with_direction}
use Rattle.str0m_values.specs.declared.direction.Direction.{Direction}

mid_is : (attr : MediaAttribute) → is_some (mid_of attr) ≡ is_mid attr
mid_is attr = grind arith

pub mid_counted : (attrs : List MediaAttribute) → (is_some (first (filter_map mid_of attrs)) ≡ true) ↔ (0 < count_by is_mid attrs)
mid_counted attrs = accessor_first_counted mid_of is_mid mid_is attrs

pub direction_is : (attr : MediaAttribute) → is_some (direction_of attr) ≡ is_direction attr
direction_is attr = grind arith

pub direction_counted : (attrs : List MediaAttribute) → (is_some (first (filter_map direction_of attrs)) ≡ true)
    ↔ (0 < count_by is_direction attrs)
direction_counted attrs = accessor_first_counted direction_of is_direction direction_is attrs

-- what is set is read back
pub direction_read_back : (attrs : List MediaAttribute) (direction : Direction) → 0 < count_by is_direction attrs
    → section_direction (with_direction direction attrs) ≡ direction
direction_read_back attrs direction some = grind (arith, accessor_first_set, direction_is, accessor_first_within)
