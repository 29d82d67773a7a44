-- The lines of plain rows, whose numbers keep to their types' ranges, read as values that say the rows' formats again.
use Rattle.str0m_formats.specs.declared.codec.Codec.TheVariants as codec
use Rattle.str0m_signal.proofs.Common.{◌≡◌, ◌≢◌, ◌≤◌, ℕ, List, [], ◌∷◌, ◌++◌, IfSome, refl, sym, ◌∙◌, arith, AllByRecursion}
use Rattle.str0m_signal.proofs.Common.{HoldsRowNumbers, telephone_max, types_of, types, Codec, PayloadParams, values_printed, reads}
use Rattle.str0m_signal.proofs.Common.{row_attrs, IsPlain, codec_content, other, AllTypesSmall, section_values_read, format_line_printed}
use Rattle.str0m_signal.proofs.Common.{printed_pairs}
use Rattle.str0m_signal.proofs.back.ReadBackRowLines.{ReadAs, IsRowRateInRange, KeepsToRow, events_read, pairs_row_read}
use Rattle.str0m_signal.proofs.session.SectionLines.{AreTypes}

-- ---- small types

plain_small_first : (n : ℕ) (ns : List ℕ) → AllTypesSmall (n ∷ ns) → (n ≤ 127) × AllTypesSmall ns
plain_small_first n ns h = grind arith

pub plain_each_small : (ns : List ℕ) → AllTypesSmall ns → AllByRecursion (λ n. n ≤ 127) ns
plain_each_small [] h = tt
plain_each_small (n ∷ ns) h = let p = plain_small_first n ns h in (p.0, plain_each_small ns p.1)

-- a row whose codec carries audio, video or events, and whose numbers keep to their ranges
pub keeps_row : (row : PayloadParams) → AllTypesSmall (types_of row) → codec_content row.spec.codec ≢ other
    → IsRowRateInRange row.spec.clock_rate
    → IfSome row.spec.channels (λ n. n ≤ 255) → KeepsToRow row
keeps_row row small carried rate channels = grind arith

types_wider : (ns : List ℕ) → AllByRecursion (λ n. n ≤ 127) ns → AreTypes ns
types_wider [] h = tt
types_wider (n ∷ ns) h = let small = h.0 in (omega arith, types_wider ns h.1)

both_types : (xs ys : List ℕ) → AreTypes xs → AreTypes ys → AreTypes (xs ++ ys)
both_types [] ys h k = k
both_types (x ∷ xs) ys h k = (h.0, both_types xs ys h.1 k)

pub types_fit : (rows : List PayloadParams) → AllByRecursion IsPlain rows → AreTypes (types rows)
types_fit [] h = tt
types_fit (row ∷ rows) h = grind (arith, both_types, types_wider, plain_each_small, types_fit rows h.1)

-- ---- the lines of a plain row

-- a maximum of events is a number of eight bits
maximum_fits : (row : PayloadParams) → IsPlain row → HoldsRowNumbers row → row.spec.codec ≡ codec.Tele
    → telephone_max row.spec.format ≤ 255
maximum_fits row p holds tele = grind arith

read_back_of_codec : (row : PayloadParams) → KeepsToRow row → IsPlain row → HoldsRowNumbers row → (c : Codec) → row.spec.codec ≡ c
    → ReadAs (row_attrs row) (reads row (section_values_read c row.spec.format (printed_pairs row.spec.format)))
read_back_of_codec row held p holds codec.Tele e = events_read row held e (maximum_fits row p holds e)
read_back_of_codec row held p holds c e =
    pairs_row_read row held other_codec (printed_pairs row.spec.format) (format_line_printed row p holds other_codec) where
      other_codec : row.spec.codec ≢ codec.Tele
      other_codec = λ tele. let t = sym e ∙ tele in cc

pub plain_row_read : (row : PayloadParams) → IsPlain row → HoldsRowNumbers row
    → ReadAs (row_attrs row) (reads row (values_printed row))
plain_row_read row p holds =
    read_back_of_codec row (keeps_row row p.bounded.types p.carried holds.clock_rate holds.channels) p holds row.spec.codec refl

pub plain_rows_read : (rows : List PayloadParams) → AllByRecursion IsPlain rows → AllByRecursion HoldsRowNumbers rows
    → AllByRecursion (λ row. ReadAs (row_attrs row) (reads row (values_printed row))) rows
plain_rows_read [] p holds = tt
plain_rows_read (row ∷ rows) p holds = (plain_row_read row p.0 holds.0, plain_rows_read rows p.1 holds.1)
