-- Which codec each type of a section stands for.
use Rattle.std.specs.List.{list_any}
use Rattle.std.specs.Prelude.{ℕ, Bool, ◌==◌, ◌&&◌, nat_eq, List, ◌++◌, Option, Some, None, option_map, filter_map, if◌then◌else◌}
use Rattle.str0m_formats.specs.round.MatchScore.{same_codec}
use Rattle.str0m_sdp.specs.Common.{distinct}
use Rattle.str0m_sdp.specs.Prelude.{Codec, CodecSpec, empty, static_spec}
use Rattle.str0m_sdp.specs.attribute.RtpMap.{spec_of_map}
use Rattle.str0m_sdp.specs.declared.attribute.MediaAttribute.{MediaAttribute}
use Rattle.str0m_sdp.specs.declared.attribute.MediaAttribute.TheVariants.{RtpMap}
use Rattle.str0m_sdp.specs.declared.section.mappings.MappedType.{MappedType}
use Rattle.str0m_sdp.specs.declared.section.media_line.MediaLine.{MediaLine}
use Rattle.str0m_sdp.specs.section.Consistency.{maps}

-- the type of an rtpmap line, and the codec that it names (RFC 8866, section 6.6)
abbrev pub mapping : MediaAttribute → Option (ℕ × CodecSpec)
mapping (RtpMap pt value) = Some (pt, spec_of_map value)
mapping _ = None

-- a type that needs no rtpmap line, with its codec (RFC 3551, section 6)
abbrev pub static_type : ℕ → Option (ℕ × CodecSpec)
static_type pt = option_map (λ spec. (pt, spec)) (static_spec pt)

-- where no rtpmap line names the type
abbrev pub unmapped_type : List MediaAttribute → ℕ → Option (ℕ × CodecSpec)
unmapped_type attrs pt = if list_any (maps pt) attrs then None else static_type pt

-- the types with their codecs: those of rtpmap lines, then those of the m-line that need none, each once
unfoldable pub mapped : MediaLine → List (ℕ × CodecSpec)
mapped m = filter_map mapping m.attrs ++ filter_map (unmapped_type m.attrs) (distinct nat_eq m.pts)

-- whether the type stands for the codec
abbrev pub stands_for_codec : Codec → ℕ → ℕ × CodecSpec → Bool
stands_for_codec codec pt row = row.0 == pt && same_codec row.1.codec codec

-- whether one of these types is this one, for the codec
abbrev pub is_mapped_to : Codec → List (ℕ × CodecSpec) → ℕ → Bool
is_mapped_to codec mapped pt = list_any (stands_for_codec codec pt) mapped

-- a type with the codec that it stands for, of whose format nothing is said
abbrev pub codec_of_type : MappedType → ℕ × CodecSpec
codec_of_type row = (row.pt, record { codec = row.codec; clock_rate = row.clock_rate; channels = row.channels; format = empty })
