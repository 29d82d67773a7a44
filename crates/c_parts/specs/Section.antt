-- A section as C holds it.
use Rattle.c_parts.specs.Row.{bit}
use Rattle.c_parts.specs.declared.section.Section.{Section}
use Rattle.std.specs.Prelude.{ℕ, [], ◌∷◌, Option, Some, None, filter_map}
use Rattle.str0m_sdp.specs.Common.{first}
use Rattle.str0m_sdp.specs.declared.attribute.media_type.MediaType.{MediaType}
use Rattle.str0m_sdp.specs.declared.attribute.media_type.MediaType.TheVariants.{Audio, Video, Application, Unknown}
use Rattle.str0m_sdp.specs.declared.attribute.proto.Proto.{Proto}
use Rattle.str0m_sdp.specs.declared.attribute.proto.Proto.TheVariants.{Srtp, Sctp}
use Rattle.str0m_sdp.specs.declared.attribute.setup.Setup.{Setup}
use Rattle.str0m_sdp.specs.declared.attribute.setup.Setup.TheVariants.{ActPass, Active, Passive}
use Rattle.str0m_sdp.specs.declared.section.media_line.MediaLine.{MediaLine}
use Rattle.str0m_sdp.specs.section.SectionDirection.{section_direction}
use Rattle.str0m_sdp.specs.session.Transport.{media_setup}
use Rattle.str0m_values.specs.declared.direction.Direction.{Direction}
use Rattle.str0m_values.specs.declared.direction.Direction.TheVariants.{SendRecv, SendOnly, RecvOnly, Inactive}

-- what it carries (`zax_kind`)
abbrev pub section_kind_number : MediaType → ℕ
section_kind_number Audio = 0
section_kind_number Video = 1
section_kind_number Application = 2
section_kind_number (Unknown text) = 3

-- what carries it (`zax_protocol`)
abbrev pub section_protocol_number : Proto → ℕ
section_protocol_number Srtp = 0
section_protocol_number Sctp = 1

-- its direction (`zax_direction`)
abbrev pub section_direction_number : Direction → ℕ
section_direction_number SendRecv = 0
section_direction_number SendOnly = 1
section_direction_number RecvOnly = 2
section_direction_number Inactive = 3

-- its role in the handshake, where it says one (`zax_setup`)
abbrev pub section_setup_number : Option Setup → ℕ
section_setup_number None = 0
section_setup_number (Some ActPass) = 1
section_setup_number (Some Active) = 2
section_setup_number (Some Passive) = 3

-- a section (`zax_section`)
abbrev pub c_section : MediaLine → Section
c_section section = record {
  kind = section_kind_number section.typ;
  protocol = section_protocol_number section.proto;
  direction = section_direction_number (section_direction section.attrs);
  setup = section_setup_number (first (filter_map media_setup section.attrs));
  disabled = bit 1 section.disabled;
  reserved = 0 ∷ 0 ∷ 0 ∷ [];
}
