-- The fmtp lines of payload types, and what they say of codecs, once it is known.
use Rattle.std.specs.Borrow.{Bor}
use Rattle.std.specs.Prelude.{◌≡◌, ◌<◌, ℕ, List, [], All, get_or, length}
use Rattle.str0m_sdp.specs.Prelude.{FormatParam, format_of_fmtp, format_line_values}
use Rattle.str0m_sdp.specs.declared.attribute.MediaAttribute.{MediaAttribute}
use Rattle.str0m_sdp.specs.declared.section.type_lines.KnownFormat.{KnownFormat}
use Rattle.str0m_sdp.specs.declared.section.type_lines.TypeLines.{TypeLines}
use Rattle.str0m_sdp.specs.section.FmtpLines.{fmtp_lines_with}
use Rattle.str0m_sdp.specs.section.SectionRows.{fmtps_of}

-- it is what these lines say
unfoldable pub IsKnownFormat : List (List FormatParam) → KnownFormat → Type 0
IsKnownFormat lines known = known.format ≡ format_of_fmtp known.codec lines

-- a group has these lines, and what is known of them is so
abbrev pub IsTypeGroup : List (List FormatParam) → TypeLines → Type 0
IsTypeGroup lines group = (format_line_values group.lines.items ≡ lines) × All (IsKnownFormat lines) group.known.items

-- each group has the lines of its type among these attributes
abbrev pub AreGroupsKnown : List MediaAttribute → List TypeLines → Type 0
AreGroupsKnown attrs groups = (pt : ℕ) (d : TypeLines) → pt < length groups → IsTypeGroup (fmtps_of attrs pt) (get_or groups pt d)

-- there is a group for each type, which has its lines among these, and nothing is known
abbrev pub AreGrouped : List (ℕ × Bor (List FormatParam)) → List TypeLines → Type 0
AreGrouped lines groups =
    (length groups ≡ 256)
    × ((pt : ℕ) (d : TypeLines) → pt < 256 → ((get_or groups pt d).lines.items ≡ fmtp_lines_with pt lines) × ((get_or groups pt d).known.items ≡ []))
