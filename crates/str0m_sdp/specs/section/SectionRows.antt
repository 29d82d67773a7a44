-- The rows that a section describes.
use Rattle.std.specs.List.{list_any}
use Rattle.std.specs.Prelude.{ℕ, Bool, ◌==◌, ◌&&◌, ◌||◌, List, Option, Some, None, option_map, filter, filter_map, if◌then◌else◌, ◌≡◌, true, [], ◌∷◌, map, ◌≤◌, All}
use Rattle.str0m_formats.specs.declared.codec.Codec.TheVariants.{Rtx, Red}
use Rattle.str0m_formats.specs.declared.format.format_param.FormatParam.TheVariants.{Apt, BarePtList, ModeSet, SpropMaxDonDiff}
use Rattle.str0m_sdp.specs.Prelude.{AreModes, CodecSpec, FormatParam, FormatParams, IsBounded, IsDistance, PayloadParams, codec_content, format_of_fmtp, has, has_events, row_content_has_video, row_content_has_audio, new_row}
use Rattle.str0m_sdp.specs.attribute.Feedback.{feedback_of, with_feedback}
use Rattle.str0m_sdp.specs.declared.attribute.MediaAttribute.{MediaAttribute}
use Rattle.str0m_sdp.specs.declared.attribute.MediaAttribute.TheVariants.{Fmtp, RtpMap}
use Rattle.str0m_sdp.specs.declared.section.media_line.MediaLine.{MediaLine}
use Rattle.str0m_sdp.specs.section.Companions.{rtx_companion, red_companion}
use Rattle.str0m_sdp.specs.section.Mappings.{mapped, is_mapped_to}

-- the values of an fmtp line of the type (RFC 8866, section 6.15)
abbrev pub fmtp_values_in : ℕ → MediaAttribute → Option (List FormatParam)
fmtp_values_in pt (Fmtp n values) = if n == pt then Some values else None
fmtp_values_in pt _ = None

-- those of all fmtp lines of the type
unfoldable pub fmtps_of : List MediaAttribute → ℕ → List (List FormatParam)
fmtps_of attrs pt = filter_map (fmtp_values_in pt) attrs

-- whether a type has a row: it carries audio or video, or telephone events and stands in the m-line
abbrev pub is_kept : MediaLine → ℕ × CodecSpec → Bool
is_kept m (pt, spec) =
    row_content_has_audio (codec_content spec.codec) || (row_content_has_video (codec_content spec.codec)
    || (has_events (codec_content spec.codec) && list_any (λ n. n == pt) m.pts))

-- the row of a type with this format: a new one, with its RTX and RED types and the feedback of its lines
abbrev pub row_with : MediaLine → ℕ → CodecSpec → FormatParams → PayloadParams
row_with m pt spec format =
    with_feedback (feedback_of m.attrs pt)
    (record (new_row pt (rtx_companion m pt) (record spec { format = format })) { red = red_companion m pt spec.codec })

-- the row of a type, with the format that its fmtp lines say of its codec; none where they are refused
unfoldable pub row : MediaLine → ℕ × CodecSpec → Option PayloadParams
row m (pt, spec) = option_map (row_with m pt spec) (format_of_fmtp spec.codec (fmtps_of m.attrs pt))

-- the rows of the types that have one, in order
unfoldable pub rows : MediaLine → List PayloadParams
rows m = filter_map (row m) (filter (is_kept m) (mapped m))

-- ---- the lines of companions that name one primary type each

-- the primary types of the rows that a section describes
abbrev pub primary_types : MediaLine → List ℕ
primary_types m = map (λ row. row.pt) (rows m)

-- an RTX or a RED line names one type, which is the primary type of a row
abbrev pub NamesOnePrimaryRow : MediaLine → MediaAttribute → Type 0
NamesOnePrimaryRow m (Fmtp n values) =
    (is_mapped_to Rtx (mapped m) n ≡ true → (pt : ℕ) × (has (primary_types m) pt ≡ true) × (values ≡ Apt pt ∷ []))
    × (is_mapped_to Red (mapped m) n ≡ true → (pt : ℕ) × (has (primary_types m) pt ≡ true) × (values ≡ BarePtList pt ∷ []))
NamesOnePrimaryRow m attr = Unit {0}

-- ---- sections whose rows keep to their ranges, and the lines that see to it

-- a value of an fmtp line whose number keeps to its range
abbrev pub IsRowInBounds : FormatParam → Type 0
IsRowInBounds (ModeSet mask) = AreModes mask
IsRowInBounds (SpropMaxDonDiff n) = IsDistance n
IsRowInBounds _ = Unit {0}

-- an rtpmap or fmtp line as it can be read: of a type of seven bits (RFC 3550, section 5.1), and its values in their ranges
abbrev pub KeepsToRowLine : MediaAttribute → Type 0
KeepsToRowLine (RtpMap pt value) = pt ≤ 127
KeepsToRowLine (Fmtp pt values) = (pt ≤ 127) × All IsRowInBounds values
KeepsToRowLine _ = Unit {0}

abbrev pub KeepsToRowLines : MediaLine → Type 0
KeepsToRowLines m = All KeepsToRowLine m.attrs

-- each row that the section describes is so
abbrev pub HasBoundedRows : MediaLine → Type 0
HasBoundedRows m = All IsBounded (rows m)
