-- The types that go with another type: RTX, which sends it again, and RED, which repeats its audio.
use Rattle.std.specs.List.{list_any}
use Rattle.std.specs.Prelude.{ℕ, Bool, false, ◌==◌, ◌&&◌, List, Option, Some, None, filter_map, if◌then◌else◌}
use Rattle.str0m_formats.specs.declared.codec.Codec.TheVariants as codecs
use Rattle.str0m_formats.specs.declared.format.format_param.FormatParam.TheVariants.{BarePtList, Red}
use Rattle.str0m_sdp.specs.Common.{last}
use Rattle.str0m_sdp.specs.Prelude.{Codec, CodecSpec, FormatParam, codec_content, row_content_has_audio, when}
use Rattle.str0m_sdp.specs.declared.attribute.MediaAttribute.{MediaAttribute}
use Rattle.str0m_sdp.specs.declared.attribute.MediaAttribute.TheVariants.{Fmtp}
use Rattle.str0m_sdp.specs.declared.section.media_line.MediaLine.{MediaLine}
use Rattle.str0m_sdp.specs.section.Consistency.{section_apt_of}
use Rattle.str0m_sdp.specs.section.Mappings.{mapped, is_mapped_to}

-- the first type of a list of types (RFC 2198, section 5)
abbrev pub listed_type : FormatParam → Option ℕ
listed_type (BarePtList pt) = Some pt
listed_type (Red pt) = Some pt
listed_type _ = None

-- the type that a value names in an fmtp line of the codec: by `apt` for RTX (RFC 4588, section 8.1), by a list of types
-- for RED (RFC 2198, section 5)
abbrev pub companion_named_by : Codec → FormatParam → Option ℕ
companion_named_by codecs.Rtx value = section_apt_of value
companion_named_by codecs.Red value = listed_type value
companion_named_by _ value = None

abbrev pub is_type : ℕ → Option ℕ → Bool
is_type pt None = false
is_type pt (Some n) = n == pt

-- whether a value names the type
abbrev pub names_type : Codec → ℕ → FormatParam → Bool
names_type codec pt value = is_type pt (companion_named_by codec value)

-- the type of an fmtp line, where it stands for the codec and a value of the line names the other type
abbrev pub companion_in : Codec → List (ℕ × CodecSpec) → ℕ → MediaAttribute → Option ℕ
companion_in codec mapped pt (Fmtp n values) = when (is_mapped_to codec mapped n && list_any (names_type codec pt) values) n
companion_in codec mapped pt _ = None

-- the last such type
unfoldable pub companion : Codec → List (ℕ × CodecSpec) → List MediaAttribute → ℕ → Option ℕ
companion codec mapped attrs pt = last (filter_map (companion_in codec mapped pt) attrs)

-- the type under which a type is sent again (RFC 4588)
abbrev pub rtx_companion : MediaLine → ℕ → Option ℕ
rtx_companion m pt = companion codecs.Rtx (mapped m) m.attrs pt

-- the type under which audio is repeated (RFC 2198)
abbrev pub red_companion : MediaLine → ℕ → Codec → Option ℕ
red_companion m pt codec = if row_content_has_audio (codec_content codec) then companion codecs.Red (mapped m) m.attrs pt else None
