-- What the types of a section of plain, distinct rows are mapped to: each row's in order, and no type that needs no line.
use Rattle.str0m_formats.specs.declared.codec.Codec.TheVariants as codec
use Rattle.str0m_sdp.proofs.Common.{◌≡◌, ◌==◌, ℕ, true, false, not, List, [], ◌∷◌, ◌++◌, Option, Some, nat_eq, refl, arith, AllByRecursion}
use Rattle.str0m_sdp.proofs.Common.{flat_map, list_any, or_left, or_right, append-nil, list_any-append, format_of_fmtp, types_of, types}
use Rattle.str0m_sdp.proofs.Common.{same_codec, has, AllTypesDistinct, Codec, CodecSpec, FormatParam, PayloadParams, IsPlain, IsPlainG722}
use Rattle.str0m_sdp.proofs.Common.{type_times-some, format_all_of_both}
use Rattle.str0m_sdp.proofs.section.MadeSectionFrame.{HasNoTypes, NameNoType}
use Rattle.str0m_sdp.proofs.section.RowAttributesAnswers.{MappingNamesItself, row_entries, rtx_entry, red_entry, row_eq_false_flipped}
use Rattle.str0m_sdp.proofs.section.RowAttributesQuestions.{row_attrs_of, mappings_are, maps_are}
use Rattle.str0m_sdp.proofs.section.RowAttributesReads.{row_lines_quiet}
use Rattle.str0m_sdp.proofs.section.SectionRowsApart.{LacksType, RowRoles, row_type_unique, row_type_is_itself, row_has_at-append}
use Rattle.str0m_sdp.proofs.section.SectionRowsParts.{row_all-filter, rows_all_weaker, rows_each_among, rows_none_passes, rows_or_false}
use Rattle.str0m_sdp.proofs.section.SectionRowsParts.{rows_own_holds, AllRowsFail, rows_counted_passes}
use Rattle.str0m_sdp.specs.Common.{distinct}
use Rattle.str0m_sdp.specs.declared.attribute.MediaAttribute.{MediaAttribute}
use Rattle.str0m_sdp.specs.declared.section.media_line.MediaLine.{MediaLine}
use Rattle.str0m_sdp.specs.section.Consistency.{maps}
use Rattle.str0m_sdp.specs.section.Mappings.{mapped, stands_for_codec, is_mapped_to}

-- ---- the codec that the mapping of a plain row names

pub mapping_names_itself : (spec : CodecSpec) → (spec.codec ≡ codec.G722 → IsPlainG722 spec) → MappingNamesItself spec
mapping_names_itself spec g722 = grind arith

-- ---- the codec of each type

module _ (c : Codec) (t : ℕ) (row : PayloadParams) where
  rtx_fails : (o : Option ℕ) → ((n : ℕ) → o ≡ Some n → (n == t) ≡ false)
      → AllByRecursion (λ e. stands_for_codec c t e ≡ false) (rtx_entry row o)
  rtx_fails o h = grind arith

  red_fails : (o : Option ℕ) → ((n : ℕ) → o ≡ Some n → (n == t) ≡ false)
      → AllByRecursion (λ e. stands_for_codec c t e ≡ false) (red_entry row o)
  red_fails o h = grind arith

  pub mapping_entries_apart : has (types_of row) t ≡ false → list_any (stands_for_codec c t) (row_entries row) ≡ false
  mapping_entries_apart h = grind arith

  pub entry_pt : RowRoles row → t ≡ row.pt → list_any (stands_for_codec c t) (row_entries row) ≡ same_codec row.spec.codec c
  entry_pt r same = grind (arith, rows_none_passes, format_all_of_both, rtx_fails, red_fails, row_type_is_itself, rows_or_false)

  pub entry_rtx : RowRoles row → row.resend ≡ Some t → list_any (stands_for_codec c t) (row_entries row) ≡ same_codec codec.Rtx c
  entry_rtx r is = grind (arith, row_eq_false_flipped, list_any-append, rows_none_passes, red_fails, rows_or_false, row_type_is_itself)

  pub entry_red : RowRoles row → row.red ≡ Some t → list_any (stands_for_codec c t) (row_entries row) ≡ same_codec codec.Red c
  entry_red r is = grind (arith, row_eq_false_flipped, list_any-append, rows_none_passes, rtx_fails, row_type_is_itself, rows_or_false)

-- among the types of all rows a type stands for what its own row says
pub mapped_among : (c : Codec) (t : ℕ) (before : List PayloadParams) (row : PayloadParams) (after : List PayloadParams)
    → AllTypesDistinct (types (before ++ row ∷ after)) → has (types_of row) t ≡ true
    → is_mapped_to c (flat_map row_entries (before ++ row ∷ after)) t ≡ list_any (stands_for_codec c t) (row_entries row)
mapped_among c t before row after d h =
    rows_own_holds (stands_for_codec c t) row_entries [] before row after refl (others before (row_type_unique before row after t d h).0)
    (others after (row_type_unique before row after t d h).1) where
      others : (rows : List PayloadParams) → LacksType t rows → AllRowsFail (stands_for_codec c t) row_entries rows
      others rows k = rows_all_weaker _ (λ r. list_any (stands_for_codec c t) (row_entries r) ≡ false)
          (λ r l. mapping_entries_apart c t r l) rows k

-- ---- the section

-- the fmtp lines of the row, read as these values, say its format of its codec and name no type
pub record IsMappingSaid (row : PayloadParams) (vs : List (List FormatParam)) : Type 0 where
  pub format : format_of_fmtp row.spec.codec vs ≡ Some row.spec.format
  pub silent : NameNoType vs

abbrev pub unlocked_row : PayloadParams → PayloadParams
unlocked_row row = record row { locked = false }

mappings_of_distinct : (P : ℕ → Type 0) (xs : List ℕ) → AllByRecursion P xs → AllByRecursion P (distinct nat_eq xs)
mappings_of_distinct P [] h = tt
mappings_of_distinct P (x ∷ xs) h = (h.0, row_all-filter P (λ y. not (nat_eq x y)) (distinct nat_eq xs) (mappings_of_distinct P xs h.1))

module _ (values : PayloadParams → List (List FormatParam)) where
  -- a frame's section with the types of the rows, and the frame's attributes before what their lines read as
  abbrev pub section : MediaLine → List PayloadParams → MediaLine
  section frame rows = record frame { pts = types rows; attrs = row_attrs_of values frame.attrs rows }

  pub each_type : (rows : List PayloadParams) → AllByRecursion (λ t. has (types rows) t ≡ true) (types rows)
  each_type rows = grind (arith, rows_each_among, row_has_at-append, or_right, or_left, row_type_is_itself)

  pub is_said_mapped : (frame : List MediaAttribute) (rows : List PayloadParams) → HasNoTypes frame → (t : ℕ)
      → has (types rows) t ≡ true → list_any (maps t) (row_attrs_of values frame rows) ≡ true
  is_said_mapped frame rows bare t h =
      let one = type_times-some (types rows) t h in
      let same = maps_are values frame rows bare t in
      rows_counted_passes (maps t) (row_attrs_of values frame rows) (omega (arith, one, same))

  -- the types that it maps: each row's in order, and none that needs no line
  pub mapped_is : (frame : MediaLine) (rows : List PayloadParams) → HasNoTypes frame.attrs → AllByRecursion IsPlain rows
      → mapped (section frame rows) ≡ flat_map row_entries rows
  unfolding mapped
  mapped_is frame rows bare plain =
      grind (
        arith,
        mappings_are,
        rows_all_weaker,
        mapping_names_itself,
        row_lines_quiet,
        mappings_of_distinct,
        each_type,
        append-nil,
        is_said_mapped,
      )
