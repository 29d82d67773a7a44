-- The codecs: one table of their names and of what they carry.
use Rattle.std.specs.Char.{to_ascii_lowercase}
use Rattle.std.specs.Prelude.{◌≡◌, ◌≢◌, ℕ, Bool, true, false, Option, Some, None, List, map, codes, find, unwrap_or}
use Rattle.std.specs.Str.{str_eq_ignore_ascii_case}
use Rattle.str0m_formats.specs.Prelude.{MediaKind}
use Rattle.str0m_formats.specs.declared.codec.Codec.{Codec}
use Rattle.str0m_formats.specs.declared.codec.Codec.TheVariants.{Opus, PCMU, PCMA, G722, CN, AmrWb, H264, H265, H266, Vp8, Vp9, Av1, Tele, Rtx, Red, Null, Unknown}
use Rattle.str0m_formats.specs.declared.codec.TheConstants.{NAMED}
use Rattle.str0m_values.specs.declared.media_kind.MediaKind.TheVariants.{Audio, Video}

-- what a codec carries
pub data CodecContent : Type 0 where
  audio : CodecContent
  video : CodecContent
  events : CodecContent
  other : CodecContent

-- by which rule two specs of a codec fit, and what the row that is chosen changes in the other
pub data Rule : Type 0 where
  by_flags : Rule
  by_level : Rule
  by_h265 : Rule
  by_h266 : Rule
  by_modes : Rule
  by_profile : Rule
  by_av1 : Rule
  by_events : Rule
  by_equality : Rule

-- of each codec: its name in rtpmap lines; what it carries; the payload type that stands for it without a mapping, with the rate
-- in Hz at which it samples then (RFC 3551, section 6); its clock rate in RTP, where that is another than the sampling rate, as it
-- is for historical reasons (RFC 3551, section 4.5.2); its rule
abbrev pub codec_entry : Codec → List ℕ × CodecContent × Option (ℕ × ℕ) × Option ℕ × Rule
codec_entry Opus = (codes "opus", audio, None, None, by_flags)
codec_entry PCMU = (codes "PCMU", audio, Some (0, 8000), None, by_equality)
codec_entry PCMA = (codes "PCMA", audio, Some (8, 8000), None, by_equality)
codec_entry G722 = (codes "G722", audio, Some (9, 16000), Some 8000, by_equality)
codec_entry CN = (codes "CN", audio, Some (13, 8000), None, by_equality)
codec_entry AmrWb = (codes "AMR-WB", audio, None, None, by_modes)
codec_entry H264 = (codes "H264", video, None, None, by_level)
codec_entry H265 = (codes "H265", video, None, None, by_h265)
codec_entry H266 = (codes "H266", video, None, None, by_h266)
codec_entry Vp8 = (codes "VP8", video, None, None, by_equality)
codec_entry Vp9 = (codes "VP9", video, None, None, by_profile)
codec_entry Av1 = (codes "AV1", video, None, None, by_av1)
codec_entry Tele = (codes "telephone-event", events, None, None, by_events)
codec_entry Rtx = (codes "rtx", other, None, None, by_equality)
codec_entry Red = (codes "red", other, None, None, by_equality)
codec_entry Null = (codes "null", other, None, None, by_equality)
codec_entry Unknown = (codes "unknown", other, None, None, by_equality)

abbrev pub codec_text : Codec → List ℕ
codec_text codec = (codec_entry codec).0

abbrev pub codec_content : Codec → CodecContent
codec_content codec = (codec_entry codec).1

abbrev pub static_entry : Codec → Option (ℕ × ℕ)
static_entry codec = (codec_entry codec).2

abbrev pub rtp_clock : Codec → Option ℕ
rtp_clock codec = (codec_entry codec).3

abbrev pub codec_rule : Codec → Rule
codec_rule codec = (codec_entry codec).4

-- whether the codec is AMR-WB
abbrev pub is_amr_wb : Codec → Bool
is_amr_wb AmrWb = true
is_amr_wb _ = false

-- the kind of the sections that it stands in
abbrev pub media_kind : CodecContent → MediaKind
media_kind audio = Audio
media_kind video = Video
media_kind events = Audio
media_kind other = Video

-- the texts are equal without regard to the case of ASCII letters
abbrev pub IsSameCodecText : List ℕ → List ℕ → Type 0
IsSameCodecText s t = map to_ascii_lowercase s ≡ map to_ascii_lowercase t

-- a codec other than Null is read where its own text stands, and only there; Null is never read, and a text of no
-- codec reads as Unknown
pub record IsReadAsCodec (text : List ℕ) (codec : Codec) : Type 0 where
  pub named : (c : Codec) → c ≢ Null → IsSameCodecText text (codec_text c) → codec ≡ c
  pub only : codec ≢ Unknown → (codec ≢ Null) × IsSameCodecText text (codec_text codec)

-- what a codec's own text reads as
abbrev pub codec_printed_and_read : Codec → Codec
codec_printed_and_read Null = Unknown
codec_printed_and_read codec = codec

-- the reading as a function
unfoldable pub codec_of : List ℕ → Codec
codec_of text = unwrap_or (find (λ codec. str_eq_ignore_ascii_case text (codec_text codec)) NAMED) Unknown
