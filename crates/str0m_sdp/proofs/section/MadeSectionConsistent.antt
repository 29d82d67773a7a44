-- A section of plain, distinct rows is consistent, and each of its RTX and RED lines names one primary type.
use Rattle.str0m_formats.specs.declared.codec.Codec.TheVariants as codec
use Rattle.str0m_sdp.proofs.Common.{◌≡◌, ◌≢◌, ◌≤◌, inl, ℕ, Bool, true, false, List, [], ◌∷◌, ◌++◌, Option, Some, IfSome, All, refl, sym, ap}
use Rattle.str0m_sdp.proofs.Common.{◌∙◌, subst, arith, AllByRecursion, flat_map, All-from_recursion, codec_content, other, types}
use Rattle.str0m_sdp.proofs.Common.{same_codec, has}
use Rattle.str0m_sdp.proofs.Common.{AllTypesDistinct, Codec, FormatParam, Apt, BarePtList, PayloadParams, IsPlain, count_by, true≢false}
use Rattle.str0m_sdp.proofs.Common.{type_times-some, format_all_of_both}
use Rattle.str0m_sdp.proofs.section.MadeSectionFrame.{HasNoTypes, NameNoType, NamesNoType}
use Rattle.str0m_sdp.proofs.section.MappingsBack.{IsMappingSaid, section, each_type}
use Rattle.str0m_sdp.proofs.section.RowAttributesQuestions.{lines, row_attrs_of, row_apt_is, maps_are}
use Rattle.str0m_sdp.proofs.section.RowAttributesReads.{row_lines_each}
use Rattle.str0m_sdp.proofs.section.SectionRowsAgain.{pt_mapped, rtx_mapped, red_mapped, row_primary_among}
use Rattle.str0m_sdp.proofs.section.SectionRowsParts.{rows_all_always, rows_all_weaker, rows_over_lines, rows_each_among, rows_taken_apart}
use Rattle.str0m_sdp.proofs.section.SectionRowsParts.{row_count-append}
use Rattle.str0m_sdp.proofs.section.SectionRowsParts.{rows_none_counted}
use Rattle.str0m_sdp.specs.declared.attribute.MediaAttribute.{MediaAttribute}
use Rattle.str0m_sdp.specs.declared.attribute.MediaAttribute.TheVariants.{Fmtp}
use Rattle.str0m_sdp.specs.declared.attribute.proto.Proto.TheVariants.{Srtp}
use Rattle.str0m_sdp.specs.declared.section.media_line.MediaLine.{MediaLine}
use Rattle.str0m_sdp.specs.section.Consistency.{is_mid, is_setup, is_direction, maps, IsMapped, first_section_apt, NamesNoOtherSectionApt}
use Rattle.str0m_sdp.specs.section.Consistency.{AgreesOnSectionApt}
use Rattle.str0m_sdp.specs.section.Consistency.{Consistent}
use Rattle.str0m_sdp.specs.section.MadeSection.{is_of_type}
use Rattle.str0m_sdp.specs.section.Mappings.{mapped, is_mapped_to}
use Rattle.str0m_sdp.specs.section.SectionRows.{NamesOnePrimaryRow, primary_types}

-- ---- what is counted stands in the frame alone

no_mid : (attr : MediaAttribute) → is_of_type attr ≡ true → is_mid attr ≡ false
no_mid attr h = grind arith

no_setup : (attr : MediaAttribute) → is_of_type attr ≡ true → is_setup attr ≡ false
no_setup attr h = grind arith

no_direction : (attr : MediaAttribute) → is_of_type attr ≡ true → is_direction attr ≡ false
no_direction attr h = grind arith

section_IfSome_all : {A : Type 0} (o : Option A) (P : A → Type 0) → ((x : A) → P x) → IfSome o P
section_IfSome_all o P f = grind arith

made_section_no_other : (first : ℕ) (v : List FormatParam) → AllByRecursion NamesNoType v → All (NamesNoOtherSectionApt first) v
made_section_no_other first v h = grind (arith, All-from_recursion, rows_all_weaker, NamesNoType)

no_companion : (c : Codec) → codec_content c ≢ other → (same_codec c codec.Rtx ≡ false) × (same_codec c codec.Red ≡ false)
no_companion c h = grind arith

pub section_frame_agrees : (attrs : List MediaAttribute) (attr : MediaAttribute) → is_of_type attr ≡ false → AgreesOnSectionApt attrs attr
section_frame_agrees attrs attr h = grind arith

section_frame_names : (m : MediaLine) (attr : MediaAttribute) → is_of_type attr ≡ false → NamesOnePrimaryRow m attr
section_frame_names m attr h = grind arith

module _ (values : PayloadParams → List (List FormatParam)) where
  of_types : (rows : List PayloadParams) → AllByRecursion (λ attr. is_of_type attr ≡ true) (flat_map (lines values) rows)
  of_types rows = rows_over_lines (λ attr. is_of_type attr ≡ true) (lines values) rows (rows_each_among _ rows (λ before row after e.
      row_lines_each (λ attr. is_of_type attr ≡ true) row (values row) (λ m. refl) (λ w. refl) (rows_all_always _ (λ v. refl) (values row))
      (λ n k. (λ m. refl, refl)) (λ n k. (λ m. refl, refl))))

  -- what no line of a type passes is counted in the frame alone
  pub counted_in_section_frame : (p : MediaAttribute → Bool) → ((attr : MediaAttribute) → is_of_type attr ≡ true → p attr ≡ false)
      → (frame : List MediaAttribute) (rows : List PayloadParams) → count_by p (row_attrs_of values frame rows) ≡ count_by p frame
  counted_in_section_frame p fails frame rows = grind (arith, row_count-append, rows_none_counted, rows_all_weaker, of_types)

  module _ (frame : MediaLine) (bare : HasNoTypes frame.attrs) (rows : List PayloadParams) (d : AllTypesDistinct (types rows))
      (said : AllByRecursion (λ r. IsMappingSaid r (values r)) rows) where
    -- each type of the rows is mapped once
    pub mapped_once : All (IsMapped (row_attrs_of values frame.attrs rows)) (types rows)
    mapped_once =
        All-from_recursion _ (types rows)
        (rows_all_weaker _ (IsMapped (row_attrs_of values frame.attrs rows)) (λ t h. inl (once t h)) (types rows) (each_type values rows))
      where
        once : (t : ℕ) → has (types rows) t ≡ true → count_by (maps t) (row_attrs_of values frame.attrs rows) ≡ 1
        once t h =
            let same = maps_are values frame.attrs rows bare t in
            let one = type_times-some (types rows) t h in
            let at_most = d t in
            omega (arith, same, one, at_most)

    -- what an RTX type names agrees
    pub made_section_agrees : All (AgreesOnSectionApt (row_attrs_of values frame.attrs rows)) (row_attrs_of values frame.attrs rows)
    made_section_agrees =
        All-from_recursion (AgreesOnSectionApt attrs) attrs
        (format_all_of_both (AgreesOnSectionApt attrs) frame.attrs (flat_map (lines values) rows)
        (rows_all_weaker _ (AgreesOnSectionApt attrs) (section_frame_agrees attrs) frame.attrs bare)
        (rows_over_lines (AgreesOnSectionApt attrs) (lines values) rows (rows_each_among _ rows one)))
      where
        attrs : List MediaAttribute
        attrs = row_attrs_of values frame.attrs rows

        format : (row : PayloadParams) (vs : List (List FormatParam)) → NameNoType vs
            → AllByRecursion (λ v. AgreesOnSectionApt attrs (Fmtp row.pt v)) vs
        format row [] h = tt
        format row (v ∷ vs) h = (
          section_IfSome_all (first_section_apt row.pt attrs) _ (λ first. made_section_no_other first v h.0),
          format row vs h.1,
        )

        one : (before : List PayloadParams) (row : PayloadParams) (after : List PayloadParams) → rows ≡ before ++ row ∷ after
            → AllByRecursion (AgreesOnSectionApt attrs) (lines values row)
        one before row after e =
            row_lines_each (AgreesOnSectionApt attrs) row (values row) (λ m. tt) (λ w. tt)
            (format row (values row) (rows_taken_apart (λ r. IsMappingSaid r (values r)) before row after
            (subst (AllByRecursion (λ r. IsMappingSaid r (values r))) e said)).1.silent)
            (λ n is. (
              λ m. tt,
              subst (λ o. IfSome o (λ first. All (NamesNoOtherSectionApt first) (Apt row.pt ∷ []))) (sym (first_is n is))
                  (All-from_recursion (NamesNoOtherSectionApt row.pt) (Apt row.pt ∷ []) (refl, tt)),
            ))
            (λ n is. (
              λ m. tt,
              section_IfSome_all (first_section_apt n attrs) _
                  (λ first. All-from_recursion (NamesNoOtherSectionApt first) (BarePtList row.pt ∷ []) (tt, tt)),
            ))
          where
            first_is : (n : ℕ) → row.resend ≡ Some n → first_section_apt n attrs ≡ Some row.pt
            first_is n is =
                ap (λ xs. first_section_apt n (row_attrs_of values frame.attrs xs)) e
                ∙ row_apt_is values frame.attrs bare before row after (subst (λ xs. AllTypesDistinct (types xs)) e d) n is

    -- the section is consistent, where the frame has one mid, one setup at most, one direction, and there is a row
    pub consistent : count_by is_mid frame.attrs ≡ 1 → count_by is_setup frame.attrs ≤ 1
        → (frame.proto ≡ Srtp → count_by is_direction frame.attrs ≡ 1) → rows ≢ []
        → Consistent (section values frame rows)
    consistent mid setup direction some = record {
      mid = counted_in_section_frame is_mid no_mid frame.attrs rows ∙ mid;
      setup = let same = counted_in_section_frame is_setup no_setup frame.attrs rows in omega (arith, same, setup);
      proto = λ e. (counted_in_section_frame is_direction no_direction frame.attrs rows ∙ direction e, λ enabled. some_types rows some);
      mapped = mapped_once;
      apt = made_section_agrees;
    } where
      some_types : (rows : List PayloadParams) → rows ≢ [] → types rows ≢ []
      some_types [] h = absurd (h refl)
      some_types (row ∷ rows) h = λ e. cc

    -- each RTX and each RED line names one primary type
    pub names_one : AllByRecursion IsPlain rows → All (NamesOnePrimaryRow (section values frame rows)) (section values frame rows).attrs
    names_one plain =
        All-from_recursion (NamesOnePrimaryRow m) (row_attrs_of values frame.attrs rows)
        (format_all_of_both (NamesOnePrimaryRow m) frame.attrs (flat_map (lines values) rows)
        (rows_all_weaker _ (NamesOnePrimaryRow m) (section_frame_names m) frame.attrs bare)
        (rows_over_lines (NamesOnePrimaryRow m) (lines values) rows (rows_each_among _ rows one)))
      where
        m : MediaLine
        m = section values frame rows

        one : (before : List PayloadParams) (row : PayloadParams) (after : List PayloadParams) → rows ≡ before ++ row ∷ after
            → AllByRecursion (NamesOnePrimaryRow m) (lines values row)
        one before row after e =
            row_lines_each (NamesOnePrimaryRow m) row (values row) (λ m. tt) (λ w. tt) (rows_all_always _ format (values row))
            (λ n is. (λ m. tt, (λ named. (row.pt, primary, refl), λ named. absurd (true≢false (sym named ∙ of_rtx n is)))))
            (λ n is. (λ m. tt, (λ named. absurd (true≢false (sym named ∙ of_red n is)), λ named. (row.pt, primary, refl))))
          where
            plain' : AllByRecursion IsPlain (before ++ row ∷ after)
            plain' = subst (AllByRecursion IsPlain) e plain

            d' : AllTypesDistinct (types (before ++ row ∷ after))
            d' = subst (λ xs. AllTypesDistinct (types xs)) e d

            primary : has (primary_types m) row.pt ≡ true
            primary =
                ap (λ xs. has (primary_types (section values frame xs)) row.pt) e
                ∙ row_primary_among values frame bare before row after plain' d'
                (subst (AllByRecursion (λ r. IsMappingSaid r (values r))) e said)

            of_rtx : (n : ℕ) → row.resend ≡ Some n → is_mapped_to codec.Red (mapped m) n ≡ false
            of_rtx n is =
                ap (λ xs. is_mapped_to codec.Red (mapped (section values frame xs)) n) e
                ∙ rtx_mapped values frame bare before row after plain' d' codec.Red n is ∙ refl

            of_red : (n : ℕ) → row.red ≡ Some n → is_mapped_to codec.Rtx (mapped m) n ≡ false
            of_red n is =
                ap (λ xs. is_mapped_to codec.Rtx (mapped (section values frame xs)) n) e
                ∙ red_mapped values frame bare before row after plain' d' codec.Rtx n is ∙ refl

            carried : codec_content row.spec.codec ≢ other
            carried = (rows_taken_apart IsPlain before row after plain').1.carried

            of_pt : (c : Codec) → same_codec row.spec.codec c ≡ false → is_mapped_to c (mapped m) row.pt ≡ false
            of_pt c fails =
                ap (λ xs. is_mapped_to c (mapped (section values frame xs)) row.pt) e
                ∙ pt_mapped values frame bare before row after plain' d' c ∙ fails

            format : (v : List FormatParam) → NamesOnePrimaryRow m (Fmtp row.pt v)
            format v = (
              λ named. absurd (true≢false (sym named ∙ of_pt codec.Rtx (no_companion row.spec.codec carried).0)),
              λ named. absurd (true≢false (sym named ∙ of_pt codec.Red (no_companion row.spec.codec carried).1)),
            )
