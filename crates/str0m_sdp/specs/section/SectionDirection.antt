-- The direction of a section (RFC 8866, section 6.7).
use Rattle.std.specs.List.{position_or_len}
use Rattle.std.specs.Prelude.{List, Option, Some, None, filter_map, slice_set, unwrap_or}
use Rattle.str0m_sdp.specs.Common.{first}
use Rattle.str0m_sdp.specs.Prelude.{Direction}
use Rattle.str0m_sdp.specs.attribute.Attribute.{direction_attribute}
use Rattle.str0m_sdp.specs.declared.attribute.MediaAttribute.{MediaAttribute}
use Rattle.str0m_sdp.specs.declared.attribute.MediaAttribute.TheVariants as media
use Rattle.str0m_sdp.specs.section.Consistency.{is_direction}
use Rattle.str0m_values.specs.declared.direction.Direction.TheVariants as way

abbrev pub direction_of : MediaAttribute → Option Direction
direction_of media.SendRecv = Some way.SendRecv
direction_of media.SendOnly = Some way.SendOnly
direction_of media.RecvOnly = Some way.RecvOnly
direction_of media.Inactive = Some way.Inactive
direction_of _ = None

-- the first that attributes say; inactive where none says one
abbrev pub section_direction : List MediaAttribute → Direction
section_direction attrs = unwrap_or (first (filter_map direction_of attrs)) way.Inactive

-- the attributes with another direction where the first one stood
abbrev pub with_direction : Direction → List MediaAttribute → List MediaAttribute
with_direction direction attrs = slice_set attrs (position_or_len is_direction attrs) (direction_attribute direction)
