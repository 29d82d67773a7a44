-- What a section says of each type, as tables.
use Rattle.std.specs.Borrow.{Bor}
use Rattle.std.specs.List.{list_any}
use Rattle.std.specs.Prelude.{◌≡◌, ◌==◌, ◌<◌, ℕ, false, List, None, get_or, length, if◌then◌else◌}
use Rattle.str0m_formats.specs.declared.codec.Codec.TheVariants.{Rtx, Red}
use Rattle.str0m_sdp.specs.Prelude.{CodecSpec, FormatParam, PayloadParams, codec_content, row_content_has_audio, format_line_values, new_row}
use Rattle.str0m_sdp.specs.attribute.Feedback.{empty_feedback, feedback_of, with_feedback}
use Rattle.str0m_sdp.specs.declared.attribute.MediaAttribute.{MediaAttribute}
use Rattle.str0m_sdp.specs.declared.section.media_line.MediaLine.{MediaLine}
use Rattle.str0m_sdp.specs.declared.section.section_rows.TypeFacts.{TypeFacts}
use Rattle.str0m_sdp.specs.section.Companions.{companion}
use Rattle.str0m_sdp.specs.section.FmtpLines.{fmtp_lines_with}
use Rattle.str0m_sdp.specs.section.Mappings.{mapped}
use Rattle.str0m_sdp.specs.section.SectionRows.{fmtps_of}
use Rattle.str0m_sdp.specs.section.TypeTables.{IsWholeTable, type_in_table}

-- the row of a type, as the tables tell it
abbrev pub row_of : TypeFacts → ℕ → CodecSpec → PayloadParams
row_of words pt spec =
    with_feedback (get_or words.feedback pt empty_feedback)
    (record (new_row pt (type_in_table words.rtx pt) spec) {
      red = if row_content_has_audio (codec_content spec.codec) then type_in_table words.red pt else None;
    })

-- the tables say what the section says
pub record RowTablesSayOf (m : MediaLine) (words : TypeFacts) : Type 0 where
  pub in_m_line : (pt : ℕ) → pt < 256 → get_or words.in_m_line pt false ≡ list_any (λ n. n == pt) m.pts
  pub rtx : (pt : ℕ) → type_in_table words.rtx pt ≡ companion Rtx (mapped m) m.attrs pt
  pub red : (pt : ℕ) → type_in_table words.red pt ≡ companion Red (mapped m) m.attrs pt
  pub feedback : (pt : ℕ) → pt < 256 → get_or words.feedback pt empty_feedback ≡ feedback_of m.attrs pt

-- the tables, and the fmtp lines beside their types, say what these attributes say of each type
pub record RowTablesAreOf (types : List (ℕ × CodecSpec)) (attrs : List MediaAttribute) (words : TypeFacts) (lines : List (ℕ × Bor (List FormatParam))) : Type 0 where
  pub rtx_rows : IsWholeTable words.rtx
  pub red_rows : IsWholeTable words.red
  pub feedback_rows : length words.feedback ≡ 256
  pub rtx : (pt : ℕ) → type_in_table words.rtx pt ≡ companion Rtx types attrs pt
  pub red : (pt : ℕ) → type_in_table words.red pt ≡ companion Red types attrs pt
  pub feedback : (pt : ℕ) → pt < 256 → get_or words.feedback pt empty_feedback ≡ feedback_of attrs pt
  pub gathered : (pt : ℕ) → format_line_values (fmtp_lines_with pt lines) ≡ fmtps_of attrs pt
