-- Layers of simulcast as C holds them.
use Rattle.c_parts.specs.Row.{bit}
use Rattle.c_parts.specs.Section.{section_direction_number}
use Rattle.c_parts.specs.declared.layer.SectionLayer.{SectionLayer}
use Rattle.std.specs.Prelude.{ℕ, not, List, [], ◌∷◌, ◌++◌, Option, Some, None, filter_map, map}
use Rattle.str0m_sdp.specs.Common.{last}
use Rattle.str0m_sdp.specs.declared.attribute.simulcast.Simulcast.{Simulcast}
use Rattle.str0m_sdp.specs.declared.attribute.simulcast.SimulcastLayer.{SimulcastLayer}
use Rattle.str0m_sdp.specs.declared.section.media_line.MediaLine.{MediaLine}
use Rattle.str0m_sdp.specs.section.SectionAccessors.{simulcast_of}
use Rattle.str0m_values.specs.declared.direction.Direction.TheVariants.{SendOnly, RecvOnly}

-- a layer (`zax_layer`) that goes this way
abbrev pub c_layer : ℕ → SimulcastLayer → SectionLayer
c_layer direction layer = record { direction = direction; paused = bit 1 (not layer.restriction_id.1); reserved = 0 ∷ 0 ∷ [] }

-- those that are sent, then those that are received (RFC 8853, section 5.1)
abbrev pub c_sides : Option Simulcast → List SectionLayer
c_sides None = []
c_sides (Some simulcast) = map (c_layer (section_direction_number SendOnly)) simulcast.send.0 ++ map (c_layer (section_direction_number RecvOnly)) simulcast.recv.0

-- of a section, by its last line that says some
abbrev pub c_layers : MediaLine → List SectionLayer
c_layers section = c_sides (last (filter_map simulcast_of section.attrs))
