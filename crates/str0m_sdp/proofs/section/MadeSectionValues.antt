-- What the fmtp lines of a plain row read as: its format, and no payload type.
use Rattle.str0m_formats.proofs.{printed_pairs, IsOwnParam, IsFormatLineOf, format_said, line_of_pairs, plain_row_can_be_read_back}
use Rattle.str0m_formats.specs.declared.codec.Codec.TheVariants as codec
use Rattle.str0m_formats.specs.format.FormatLine.{format_lines_ask_absent}
use Rattle.str0m_formats.specs.format.Pairs.{has_triple_mark}
use Rattle.str0m_formats.specs.format.PairsReading.{params_read}
use Rattle.str0m_formats.specs.round.Narrowing.{telephone_max}
use Rattle.str0m_sdp.proofs.Common.{rules, arith, ◌≡◌, ◌≢◌, ℕ, false, List, [], ◌∷◌, Some, refl, All, get_or, AllByRecursion, types}
use Rattle.str0m_sdp.proofs.Common.{AllTypesDistinct, codec_content, events, format_of_fmtp, empty, IsPlain, Codec, FormatParam}
use Rattle.str0m_sdp.proofs.Common.{FormatParams}
use Rattle.str0m_sdp.proofs.Common.{PayloadParams, HoldsRowNumbers, BareRange}
use Rattle.str0m_sdp.proofs.section.MadeSectionFrame.{NamesNoType, NameNoType}
use Rattle.str0m_sdp.proofs.section.MadeSectionRead.{IsBareSectionFrame, DescribesRows, made_section_describes}
use Rattle.str0m_sdp.proofs.section.MappingsBack.{IsMappingSaid}
use Rattle.str0m_sdp.proofs.section.RowAttributesQuestions.{row_attrs_of}
use Rattle.str0m_sdp.specs.declared.attribute.MediaAttribute.{MediaAttribute}
use Rattle.str0m_sdp.specs.declared.section.media_line.MediaLine.{MediaLine}

-- one line of these pairs, and none where there are none
abbrev pub section_pairs_line_read : List (List ℕ × List ℕ) → List (List FormatParam)
section_pairs_line_read [] = []
section_pairs_line_read (pair ∷ pairs) = params_read (pair ∷ pairs) ∷ []

-- the range of telephone events, and what the pairs of any other codec read as
abbrev pub section_values_read : Codec → FormatParams → List (List ℕ × List ℕ) → List (List FormatParam)
section_values_read codec.Tele format pairs = (BareRange (telephone_max format) ∷ []) ∷ []
section_values_read _ format pairs = section_pairs_line_read pairs

section_value_names_none : (param : FormatParam) → IsOwnParam param → NamesNoType param
section_value_names_none param own = grind arith

section_values_name_none : (params : List FormatParam) → AllByRecursion IsOwnParam params → AllByRecursion NamesNoType params
section_values_name_none [] own = tt
section_values_name_none (param ∷ params) own = (section_value_names_none param own.0, section_values_name_none params own.1)

section_line_names_none : (pairs : List (List ℕ × List ℕ)) → AllByRecursion IsOwnParam (params_read pairs)
    → NameNoType (section_pairs_line_read pairs)
section_line_names_none pairs own = grind (arith, section_values_name_none)

section_none_refused : (c : Codec) → format_lines_ask_absent c [] ≡ false
unfolding format_lines_ask_absent
section_none_refused c = grind arith

section_no_line_said : (c : Codec) → c ≢ codec.Tele → format_of_fmtp c [] ≡ Some empty
section_no_line_said c other = grind (arith, section_none_refused)

no_params : params_read [] ≡ []
unfolding params_read has_triple_mark
no_params = refl

section_line_says : (c : Codec) (format : FormatParams) (pairs : List (List ℕ × List ℕ)) → c ≢ codec.Tele → IsFormatLineOf format pairs
    → format_of_fmtp c (section_pairs_line_read pairs) ≡ Some format
section_line_says c format [] other line = grind (arith, section_no_line_said, no_params)
section_line_says c format (pair ∷ pairs) other line = format_said c format (params_read (pair ∷ pairs)) other line.own line.format

said_of_codec : (row : PayloadParams) (pairs : List (List ℕ × List ℕ)) → IsPlain row → (c : Codec) → row.spec.codec ≡ c
    → (c ≢ codec.Tele → IsFormatLineOf row.spec.format pairs)
    → (format_of_fmtp c (section_values_read c row.spec.format pairs) ≡ Some row.spec.format)
    × NameNoType (section_values_read c row.spec.format pairs)
said_of_codec row pairs p c e line = grind (arith, section_line_says, section_line_names_none)

-- so the premises of the section's laws hold of what the lines of plain rows read as
pub section_lines_say : (row : PayloadParams) (pairs : List (List ℕ × List ℕ)) → IsPlain row
    → (row.spec.codec ≢ codec.Tele → IsFormatLineOf row.spec.format pairs)
    → IsMappingSaid row (section_values_read row.spec.codec row.spec.format pairs)
section_lines_say row pairs p line = let both = said_of_codec row pairs p row.spec.codec refl line in
    record { format = both.0; silent = both.1 }

-- the values of each row, where these are the pairs of its format
abbrev pub section_values_by : (PayloadParams → List (List ℕ × List ℕ)) → PayloadParams → List (List FormatParam)
section_values_by pairs row = section_values_read row.spec.codec row.spec.format (pairs row)

section_each_line_said : (pairs : PayloadParams → List (List ℕ × List ℕ)) (rows : List PayloadParams) → All IsPlain rows
    → All (λ row. row.spec.codec ≢ codec.Tele → IsFormatLineOf row.spec.format (pairs row)) rows
    → All (λ row. IsMappingSaid row (section_values_by pairs row)) rows
section_each_line_said pairs rows plain line = λ k d lt. section_lines_say (get_or rows k d) (pairs (get_or rows k d)) (plain k d lt)
    (line k d lt)

-- a section whose lines are read so describes the rows
pub describes_printed : (pairs : PayloadParams → List (List ℕ × List ℕ)) (m : MediaLine) (frame : List MediaAttribute)
    (rows : List PayloadParams) → IsBareSectionFrame m frame
    → m.attrs ≡ row_attrs_of (section_values_by pairs) frame rows → m.pts ≡ types rows → All IsPlain rows → AllTypesDistinct (types rows)
    → All (λ row. row.spec.codec ≢ codec.Tele → IsFormatLineOf row.spec.format (pairs row)) rows → rows ≢ [] → DescribesRows m rows
describes_printed pairs m frame rows f attrs pts plain d line some = search (rules, made_section_describes, section_each_line_said)

-- ---- the pairs that a format prints

section_not_events : (c : Codec) → c ≢ codec.Tele → codec_content c ≢ events
section_not_events c other = grind arith

pub format_line_printed : (row : PayloadParams) → IsPlain row → HoldsRowNumbers row → row.spec.codec ≢ codec.Tele
    → IsFormatLineOf row.spec.format (printed_pairs row.spec.format)
format_line_printed row p holds other = grind (arith, line_of_pairs, plain_row_can_be_read_back, section_not_events)

-- what the fmtp lines of a row read as where they are printed
abbrev pub values_printed : PayloadParams → List (List FormatParam)
values_printed row = section_values_by (λ r. printed_pairs r.spec.format) row

-- plain rows whose numbers keep to their types' ranges, none of whose types stands twice, are described by a section whose
-- types are theirs and whose lines are those of a frame and what theirs read as
pub section_describes_read_back : (m : MediaLine) (frame : List MediaAttribute) (rows : List PayloadParams) → IsBareSectionFrame m frame
    → m.attrs ≡ row_attrs_of values_printed frame rows → m.pts ≡ types rows → All IsPlain rows → All HoldsRowNumbers rows
    → AllTypesDistinct (types rows) → rows ≢ [] → DescribesRows m rows
section_describes_read_back m frame rows f attrs pts plain holds d some =
    describes_printed (λ r. printed_pairs r.spec.format) m frame rows f attrs pts plain d
    (λ k e lt. format_line_printed (get_or rows k e) (plain k e lt) (holds k e lt)) some
