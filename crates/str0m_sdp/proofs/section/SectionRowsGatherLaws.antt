-- What a section says of each type, one attribute more.
use Rattle.str0m_formats.specs.declared.codec.Codec.TheVariants.{Rtx, Red}
use Rattle.str0m_sdp.proofs.Common.{arith, ◌≡◌, ◌==◌, ◌<◌, ◌+◌, ◌++◌, ◌&&◌, ℕ, Bool, false, cond, List, [], ◌∷◌, length, take, get_or}
use Rattle.str0m_sdp.proofs.Common.{replicate, Some, None, refl, sym, ap, ◌∙◌, Bor, list_any, length-set, get_or-replicate}
use Rattle.str0m_sdp.proofs.Common.{CodecSpec, FormatParam, set}
use Rattle.str0m_sdp.proofs.attribute.FeedbackLaws.{feedback_start, feedback_other, feedback_named}
use Rattle.str0m_sdp.proofs.section.CompanionLaws.{companion_start, companion_other, companions_noted}
use Rattle.str0m_sdp.proofs.section.FmtpLineLaws.{no_fmtp_lines, fmtp_lines_other, fmtp_lines_pushed}
use Rattle.str0m_sdp.specs.attribute.Feedback.{empty_feedback, named_feedback, either_feedback}
use Rattle.str0m_sdp.specs.declared.attribute.MediaAttribute.{MediaAttribute}
use Rattle.str0m_sdp.specs.declared.attribute.MediaAttribute.TheVariants.{Fmtp, RtcpFb}
use Rattle.str0m_sdp.specs.declared.attribute.feedback.Feedback.{Feedback}
use Rattle.str0m_sdp.specs.declared.section.media_line.MediaLine.{MediaLine}
use Rattle.str0m_sdp.specs.declared.section.section_rows.TypeFacts.{TypeFacts}
use Rattle.str0m_sdp.specs.declared.section.type_tables.TypeTable.{TypeTable}
use Rattle.str0m_sdp.specs.section.Companions.{names_type}
use Rattle.str0m_sdp.specs.section.Mappings.{is_mapped_to, mapped}
use Rattle.str0m_sdp.specs.section.SectionRowsFacts.{RowTablesAreOf, RowTablesSayOf}
use Rattle.str0m_sdp.specs.section.TypeTables.{IsWholeTable, type_in_table}

-- each type is told by its mark whether it is of the codec
abbrev pub TypeMarks : List Bool → (ℕ → Bool) → Type 0
TypeMarks marks is = (pt : ℕ) → pt < 256 → get_or marks pt false ≡ is pt

-- an fmtp line joins the others, and is noted in the tables of the codecs whose type it is of
pub fmtp_gathered : (types : List (ℕ × CodecSpec)) (attrs : List MediaAttribute) (words : TypeFacts)
    (lines : List (ℕ × Bor (List FormatParam)))
    (rtx_types red_types : List Bool) (rtx red : TypeTable) (i n : ℕ) (line : Bor (List FormatParam)) (attr : MediaAttribute)
    → i < length attrs → attr ≡ get_or attrs i attr → attr ≡ Fmtp n line.now → n < 256
    → TypeMarks rtx_types (is_mapped_to Rtx types) → TypeMarks red_types (is_mapped_to Red types)
    → IsWholeTable rtx → IsWholeTable red
    → ((m : ℕ) → type_in_table rtx m
    ≡ cond (get_or rtx_types n false && list_any (names_type Rtx m) line.now) (Some n) (type_in_table words.rtx m))
    → ((m : ℕ) → type_in_table red m
    ≡ cond (get_or red_types n false && list_any (names_type Red m) line.now) (Some n) (type_in_table words.red m))
    → RowTablesAreOf types (take i attrs) words lines
    → RowTablesAreOf types (take (i + 1) attrs) (record words { rtx = rtx; red = red }) (lines ++ (n, line) ∷ [])
fmtp_gathered types attrs words lines rtx_types red_types rtx red i n line attr lt is variant small rtx_marks red_marks rtx_whole red_whole
    rtx_noted red_noted so_far =
    record {
      rtx_rows = rtx_whole;
      red_rows = red_whole;
      feedback_rows = so_far.feedback_rows;
      rtx = companions_noted Rtx types attrs rtx_types words.rtx rtx i n line.now attr lt is variant (rtx_marks n small) rtx_noted
          so_far.rtx;
      red = companions_noted Red types attrs red_types words.red red i n line.now attr lt is variant (red_marks n small) red_noted
          so_far.red;
      feedback = λ pt le. so_far.feedback pt le
          ∙ sym (feedback_other attrs i attr pt lt is (λ m value other. let it : Fmtp n line.now ≡ RtcpFb m value = sym variant ∙ other in
          cc));
      gathered = λ pt. fmtp_lines_pushed attrs lines i n line attr pt lt is variant (so_far.gathered pt);
    }

-- an rtcp-fb line is noted in the table of feedback
pub feedback_gathered : (types : List (ℕ × CodecSpec)) (attrs : List MediaAttribute) (words : TypeFacts)
    (lines : List (ℕ × Bor (List FormatParam)))
    (i n : ℕ) (value : List ℕ) (attr : MediaAttribute) → i < length attrs → attr ≡ get_or attrs i attr → attr ≡ RtcpFb n value → n < 256
    → RowTablesAreOf types (take i attrs) words lines
    → RowTablesAreOf types (take (i + 1) attrs)
    (record words { feedback = set words.feedback n (either_feedback (get_or words.feedback n empty_feedback) (named_feedback value)) })
    lines
feedback_gathered types attrs words lines i n value attr lt is variant small so_far =
    grind (arith, length-set, companion_other, feedback_named, fmtp_lines_other)

-- any other attribute says nothing of types
pub row_other_gathered : (types : List (ℕ × CodecSpec)) (attrs : List MediaAttribute) (words : TypeFacts)
    (lines : List (ℕ × Bor (List FormatParam)))
    (i : ℕ) (attr : MediaAttribute) → i < length attrs → attr ≡ get_or attrs i attr
    → ((n : ℕ) (values : List FormatParam) → attr ≡ Fmtp n values → ⊥) → ((n : ℕ) (value : List ℕ) → attr ≡ RtcpFb n value → ⊥)
    → RowTablesAreOf types (take i attrs) words lines → RowTablesAreOf types (take (i + 1) attrs) words lines
row_other_gathered types attrs words lines i attr lt is no_fmtp no_feedback so_far = grind
    (arith, companion_other, feedback_other, fmtp_lines_other)

-- before any attribute nothing is said
pub row_nothing_gathered : (types : List (ℕ × CodecSpec)) (words : TypeFacts)
    → IsWholeTable words.rtx → IsWholeTable words.red
    → ((pt : ℕ) → type_in_table words.rtx pt ≡ None) → ((pt : ℕ) → type_in_table words.red pt ≡ None)
    → words.feedback ≡ replicate 256 empty_feedback
    → RowTablesAreOf types [] words []
row_nothing_gathered types words rtx_whole red_whole rtx red feedback =
    record {
      rtx_rows = rtx_whole;
      red_rows = red_whole;
      feedback_rows = ap (λ (rows : List Feedback). length rows) feedback;
      rtx = λ pt. rtx pt ∙ companion_start Rtx types pt;
      red = λ pt. red pt ∙ companion_start Red types pt;
      feedback = λ pt lt. ap (λ (rows : List Feedback). get_or rows pt empty_feedback) feedback
          ∙ get_or-replicate 256 pt empty_feedback empty_feedback lt ∙ feedback_start pt;
      gathered = λ pt. no_fmtp_lines [] pt refl;
    }

-- what is gathered of all attributes is what the section says
pub row_all_gathered : (m : MediaLine) (words : TypeFacts) (lines : List (ℕ × Bor (List FormatParam)))
    → TypeMarks words.in_m_line (λ pt. list_any (λ n. n == pt) m.pts) → RowTablesAreOf (mapped m) m.attrs words lines
    → RowTablesSayOf m words
row_all_gathered m words lines in_m_line all = grind arith
