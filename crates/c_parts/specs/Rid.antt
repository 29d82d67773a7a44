-- Streams that may be restricted, as C holds them.
use Rattle.c_parts.specs.Section.{section_direction_number}
use Rattle.c_parts.specs.declared.rid.SectionRid.{SectionRid}
use Rattle.std.specs.Prelude.{ℕ, List, [], ◌∷◌, Option, Some, None, bytes_eq, codes, filter_map, if◌then◌else◌}
use Rattle.str0m_sdp.specs.declared.attribute.MediaAttribute.{MediaAttribute}
use Rattle.str0m_sdp.specs.declared.attribute.MediaAttribute.TheVariants.{Rid}
use Rattle.str0m_sdp.specs.declared.section.media_line.MediaLine.{MediaLine}
use Rattle.str0m_values.specs.declared.direction.Direction.TheVariants.{SendOnly, RecvOnly}

-- which way a stream goes (`zax_direction`), by the word of its line: `send`, or else `recv` (RFC 8851, section 4)
abbrev pub rid_way_number : List ℕ → ℕ
rid_way_number word = if bytes_eq word (codes "send") then section_direction_number SendOnly else section_direction_number RecvOnly

-- a rid line (`zax_rid`)
abbrev pub c_rid : MediaAttribute → Option SectionRid
c_rid (Rid id direction pts restrictions) = Some (record { direction = rid_way_number direction; reserved = 0 ∷ 0 ∷ 0 ∷ [] })
c_rid _ = None

-- those of a section
abbrev pub c_rids : MediaLine → List SectionRid
c_rids section = filter_map c_rid section.attrs
