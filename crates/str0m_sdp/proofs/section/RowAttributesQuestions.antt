-- Asked of a frame without lines of types and the lines of all rows, each question on a row's type has that row's answer.
use Rattle.str0m_formats.specs.declared.codec.Codec.TheVariants as codec
use Rattle.str0m_sdp.proofs.Common.{◌≡◌, ◌==◌, ◌&&◌, ℕ, Bool, true, false, cond, List, [], ◌∷◌, ◌++◌, Option, Some, None, option_to_list}
use Rattle.str0m_sdp.proofs.Common.{refl, ap, ◌∙◌, arith, AllByRecursion, flat_map, list_any, filter_map-append, type_times}
use Rattle.str0m_sdp.proofs.Common.{AllTypesDistinct}
use Rattle.str0m_sdp.proofs.Common.{types_of, types, CodecSpec, FormatParam, PayloadParams, type_times-append, type_times-cons, Codec}
use Rattle.str0m_sdp.proofs.Common.{count_by}
use Rattle.str0m_sdp.proofs.Common.{filter_map}
use Rattle.str0m_sdp.proofs.section.FmtpLinesAnswers.{fmtp_values_apart, fmtp_values_own, row_apt_apart, row_apt_own}
use Rattle.str0m_sdp.proofs.section.MadeSectionFrame.{HasNoTypes, NameNoType, frame_mapping, frame_maps, frame_feedback, frame_values}
use Rattle.str0m_sdp.proofs.section.MadeSectionFrame.{frame_apt, frame_companion}
use Rattle.str0m_sdp.proofs.section.RowAttributesAnswers.{MappingNamesItself, row_entries, row_and_false, row_none_with, rtx_own, red_own}
use Rattle.str0m_sdp.proofs.section.RowAttributesAnswers.{feedback_apart}
use Rattle.str0m_sdp.proofs.section.RowAttributesAnswers.{feedback_own, mapping_own}
use Rattle.str0m_sdp.proofs.section.RowAttributesReads.{reads, fmtp_lines, red_reads, row_lines_quiet, all_feedback, all_fmtp}
use Rattle.str0m_sdp.proofs.section.SectionRowsApart.{LacksType, RowRoles, row_type_unique, row_roles_apart, row_distinct, has_pt, has_rtx}
use Rattle.str0m_sdp.proofs.section.SectionRowsApart.{pt_apart}
use Rattle.str0m_sdp.proofs.section.SectionRowsOwn.{AreRowsOpen, own_said}
use Rattle.str0m_sdp.proofs.section.SectionRowsParts.{rows_all_always, rows_or_false, rows_all_weaker, rows_all_together, rows_taken_apart}
use Rattle.str0m_sdp.proofs.section.SectionRowsParts.{rows_none_passes}
use Rattle.str0m_sdp.proofs.section.SectionRowsParts.{rows_none_counted}
use Rattle.str0m_sdp.proofs.section.SectionRowsParts.{row_count-append, rows_own_holds, AllRowsFail}
use Rattle.str0m_sdp.specs.Common.{first, last}
use Rattle.str0m_sdp.specs.attribute.Feedback.{is_feedback, has_feedback}
use Rattle.str0m_sdp.specs.attribute.RtpMap.{map_of_spec}
use Rattle.str0m_sdp.specs.declared.attribute.MediaAttribute.{MediaAttribute}
use Rattle.str0m_sdp.specs.declared.attribute.MediaAttribute.TheVariants.{RtpMap}
use Rattle.str0m_sdp.specs.declared.label.TheConstants.{TRANSPORT_CC, REMB, FIR, NACK, PLI}
use Rattle.str0m_sdp.specs.section.Companions.{companion_in, companion}
use Rattle.str0m_sdp.specs.section.Consistency.{maps, section_apt_in, first_section_apt}
use Rattle.str0m_sdp.specs.section.Mappings.{mapping, is_mapped_to}
use Rattle.str0m_sdp.specs.section.RowAttributes.{feedback_attrs, rtx_lines}
use Rattle.str0m_sdp.specs.section.SectionRows.{fmtp_values_in, fmtps_of}

first_section_apt-is : (t : ℕ) (attrs : List MediaAttribute) → first_section_apt t attrs ≡ first (filter_map (section_apt_in t) attrs)
first_section_apt-is t [] = refl
first_section_apt-is t (attr ∷ attrs) = grind (arith, first_section_apt-is t attrs)

last_of_row_option : (o : Option ℕ) → last (option_to_list o) ≡ o
last_of_row_option o = grind arith

-- the lines say exactly the row's feedback of its primary type
pub record SayFeedback (attrs : List MediaAttribute) (row : PayloadParams) : Type 0 where
  pub transport_cc : has_feedback attrs row.pt TRANSPORT_CC.now ≡ row.fb_transport_cc
  pub fir : has_feedback attrs row.pt FIR.now ≡ row.fb_fir
  pub nack : has_feedback attrs row.pt NACK.now ≡ row.fb_nack
  pub pli : has_feedback attrs row.pt PLI.now ≡ row.fb_pli
  pub remb : has_feedback attrs row.pt REMB.now ≡ row.fb_remb

row_and_true : (a : Bool) → (a && true) ≡ a
row_and_true a = grind arith

-- a question asked of the lines of all rows, where each row's lines answer by a list
pub over_rows : {R X Y : Type 0} (q : X → Option Y) (lines : R → List X) (f : R → List Y) (rows : List R)
    → AllByRecursion (λ row. filter_map q (lines row) ≡ f row) rows → filter_map q (flat_map lines rows) ≡ flat_map f rows
over_rows q lines f [] h = refl
over_rows q lines f (row ∷ rows) h = grind (arith, filter_map-append, over_rows q lines f rows h.1)

module _ (values : PayloadParams → List (List FormatParam)) where
  -- what the lines of a row read as, and a frame's attributes with those of all rows
  abbrev pub lines : PayloadParams → List MediaAttribute
  lines row = reads row (values row)

  abbrev pub row_attrs_of : List MediaAttribute → List PayloadParams → List MediaAttribute
  row_attrs_of frame rows = frame ++ flat_map lines rows

  module _ (frame : List MediaAttribute) (bare : HasNoTypes frame) (before : List PayloadParams) (row : PayloadParams)
      (after : List PayloadParams) (d : AllTypesDistinct (types (before ++ row ∷ after))) where
    own_row_roles : RowRoles row
    own_row_roles = row_roles_apart row (row_distinct before row after d)

    -- the values of its fmtp lines
    pub row_values_are : fmtps_of (row_attrs_of frame (before ++ row ∷ after)) row.pt ≡ values row
    unfolding fmtps_of
    row_values_are =
        own_said (fmtp_values_in row.pt) lines frame before row after
        (row_lines_quiet (fmtp_values_in row.pt) frame
        (rows_all_weaker _ (λ a. fmtp_values_in row.pt a ≡ None) (frame_values row.pt) frame bare))
        (others before (row_type_unique before row after row.pt d (has_pt row)).0)
        (others after (row_type_unique before row after row.pt d (has_pt row)).1)
        ∙ fmtp_values_own row (values row) own_row_roles
      where
        others : (rows : List PayloadParams) → LacksType row.pt rows → AreRowsOpen (fmtp_values_in row.pt) lines rows
        others rows h = rows_all_weaker _ (λ r. filter_map (fmtp_values_in row.pt) (lines r) ≡ [])
            (λ r k. fmtp_values_apart r (values r) row.pt k)
            rows h

    -- the primary type that its RTX type names
    pub row_apt_is : (t : ℕ) → row.resend ≡ Some t → first_section_apt t (row_attrs_of frame (before ++ row ∷ after)) ≡ Some row.pt
    row_apt_is t is =
        first_section_apt-is t (row_attrs_of frame (before ++ row ∷ after))
        ∙ ap first (own_said (section_apt_in t) lines frame before row after
        (row_lines_quiet (section_apt_in t) frame (rows_all_weaker _ (λ a. section_apt_in t a ≡ None) (frame_apt t) frame bare))
        (others before (row_type_unique before row after t d (has_rtx row t is)).0)
        (others after (row_type_unique before row after t d (has_rtx row t is)).1)
        ∙ row_apt_own row (values row) t own_row_roles is)
      where
        others : (rows : List PayloadParams) → LacksType t rows → AreRowsOpen (section_apt_in t) lines rows
        others rows h = rows_all_weaker _ (λ r. filter_map (section_apt_in t) (lines r) ≡ []) (λ r k. row_apt_apart r (values r) t k) rows h

    -- its feedback
    row_has_flag : (words : List ℕ) → has_feedback (row_attrs_of frame (before ++ row ∷ after)) row.pt words
        ≡ list_any (is_feedback row.pt words) (lines row)
    unfolding has_feedback
    row_has_flag words =
        rows_own_holds (is_feedback row.pt words) lines frame before row after
        (rows_none_passes (is_feedback row.pt words) frame
        (rows_all_weaker _ (λ a. is_feedback row.pt words a ≡ false) (frame_feedback row.pt words) frame bare))
        (others before (row_type_unique before row after row.pt d (has_pt row)).0)
        (others after (row_type_unique before row after row.pt d (has_pt row)).1)
      where
        others : (rows : List PayloadParams) → LacksType row.pt rows → AllRowsFail (is_feedback row.pt words) lines rows
        others rows h =
            rows_all_weaker _ (λ r. list_any (is_feedback row.pt words) (lines r) ≡ false)
            (λ r k. feedback_apart r (values r) row.pt words k) rows h

    pub feedback_is : SayFeedback (row_attrs_of frame (before ++ row ∷ after)) row
    feedback_is = record {
      transport_cc = row_has_flag TRANSPORT_CC.now ∙ feedback_own row (values row) TRANSPORT_CC.now
          ∙ simp (row_and_true, row_and_false, rows_or_false);
      fir = row_has_flag FIR.now ∙ feedback_own row (values row) FIR.now ∙ simp (row_and_true, row_and_false, rows_or_false);
      nack = row_has_flag NACK.now ∙ feedback_own row (values row) NACK.now ∙ simp (row_and_true, row_and_false, rows_or_false);
      pli = row_has_flag PLI.now ∙ feedback_own row (values row) PLI.now ∙ simp (row_and_true, row_and_false);
      remb = row_has_flag REMB.now ∙ feedback_own row (values row) REMB.now ∙ simp (row_and_true, row_and_false, rows_or_false);
    }

    -- its RTX type and its RED type, where these are mapped to RTX and RED, and no value of a row's format names a type
    module _ (mapped : List (ℕ × CodecSpec)) (silent : AllByRecursion (λ r. NameNoType (values r)) (before ++ row ∷ after)) where
      companion_is : (c : Codec) (own : Option ℕ) → filter_map (companion_in c mapped row.pt) (lines row) ≡ option_to_list own
          → companion c mapped (row_attrs_of frame (before ++ row ∷ after)) row.pt ≡ own
      unfolding companion
      companion_is c own is =
          ap last (own_said (companion_in c mapped row.pt) lines frame before row after
          (row_lines_quiet (companion_in c mapped row.pt) frame
          (rows_all_weaker _ (λ a. companion_in c mapped row.pt a ≡ None) (frame_companion c mapped row.pt) frame bare))
          (others before (rows_taken_apart _ before row after silent).0 (row_type_unique before row after row.pt d (has_pt row)).0)
          (others after (rows_taken_apart _ before row after silent).2 (row_type_unique before row after row.pt d (has_pt row)).1)
          ∙ is)
          ∙ last_of_row_option own
        where
          others : (rows : List PayloadParams) → AllByRecursion (λ r. NameNoType (values r)) rows → LacksType row.pt rows
              → AreRowsOpen (companion_in c mapped row.pt) lines rows
          others rows s h =
              rows_all_together _ _ (λ r. filter_map (companion_in c mapped row.pt) (lines r) ≡ [])
              (λ r k l. row_none_with mapped r c (values r) row.pt k (pt_apart r row.pt l)) rows s h

      own_row_silent : NameNoType (values row)
      own_row_silent = (rows_taken_apart (λ r. NameNoType (values r)) before row after silent).1

      pub rtx_is : ((n : ℕ) → row.resend ≡ Some n → is_mapped_to codec.Rtx mapped n ≡ true)
          → companion codec.Rtx mapped (row_attrs_of frame (before ++ row ∷ after)) row.pt ≡ row.resend
      rtx_is is = companion_is codec.Rtx row.resend (rtx_own mapped row (values row) own_row_silent is)

      pub red_is : ((n : ℕ) → row.red ≡ Some n → is_mapped_to codec.Red mapped n ≡ true)
          → companion codec.Red mapped (row_attrs_of frame (before ++ row ∷ after)) row.pt ≡ row.red
      red_is is = companion_is codec.Red row.red (red_own mapped row (values row) own_row_silent is)

  -- the codecs of the types: in order, each row's own
  pub mappings_are : (frame : List MediaAttribute) (rows : List PayloadParams) → HasNoTypes frame
      → AllByRecursion (λ row. MappingNamesItself row.spec) rows
      → filter_map mapping (row_attrs_of frame rows) ≡ flat_map row_entries rows
  mappings_are frame rows bare same = grind (
    arith,
    filter_map-append,
    row_lines_quiet,
    rows_all_weaker,
    frame_mapping,
    over_rows,
    mapping_own,
  )

  -- a type is mapped as often as it stands among the types of the rows
  maps_in : (t : ℕ) (row : PayloadParams) → count_by (maps t) (lines row) ≡ type_times (types_of row) t
  maps_in t row =
      let a = row_count-append (maps t) (RtpMap row.pt (map_of_spec row.spec) ∷ []) (feedback_attrs row ++ rest) in
      let b = row_count-append (maps t) (feedback_attrs row) rest in
      let c = row_count-append (maps t) (fmtp_lines row.pt (values row)) (rtx_lines row row.resend ++ red_reads row row.red) in
      let e = row_count-append (maps t) (rtx_lines row row.resend) (red_reads row row.red) in
      let none = rows_none_counted (maps t) (feedback_attrs row) (all_feedback (λ x. maps t x ≡ false) row (λ w. refl)) in
      let none' = rows_none_counted (maps t) (fmtp_lines row.pt (values row))
      (all_fmtp (λ x. maps t x ≡ false) row (values row) (rows_all_always _ (λ v. refl) (values row))) in
      let whole = type_times-cons row.pt (option_to_list row.resend ++ option_to_list row.red) t in
      let parts = type_times-append (option_to_list row.resend) (option_to_list row.red) t in
      let r = rtx row.resend in
      let s = red row.red in
      let one = first_one in
      omega (arith, a, b, c, e, none, none', whole, parts, r, s, one)
    where
      rest : List MediaAttribute
      rest = fmtp_lines row.pt (values row) ++ (rtx_lines row row.resend ++ red_reads row row.red)

      first_one : count_by (maps t) (RtpMap row.pt (map_of_spec row.spec) ∷ []) ≡ cond {A = ℕ} (row.pt == t) 1 0
      first_one = omega arith

      rtx : (o : Option ℕ) → count_by (maps t) (rtx_lines row o) ≡ type_times (option_to_list o) t
      rtx None = refl
      rtx (Some n) = omega arith

      red : (o : Option ℕ) → count_by (maps t) (red_reads row o) ≡ type_times (option_to_list o) t
      red None = refl
      red (Some n) = omega arith

  pub maps_are : (frame : List MediaAttribute) (rows : List PayloadParams) → HasNoTypes frame → (t : ℕ)
      → count_by (maps t) (row_attrs_of frame rows) ≡ type_times (types rows) t
  maps_are frame rows bare t =
      let a = row_count-append (maps t) frame (flat_map lines rows) in
      let none = rows_none_counted (maps t) frame (rows_all_weaker _ (λ x. maps t x ≡ false) (frame_maps t) frame bare) in
      let b = go rows in
      omega (arith, a, none, b)
    where
      go : (rows : List PayloadParams) → count_by (maps t) (flat_map lines rows) ≡ type_times (types rows) t
      go [] = refl
      go (row ∷ rows) =
          let a = row_count-append (maps t) (lines row) (flat_map lines rows) in
          let b = type_times-append (types_of row) (types rows) t in
          let one = maps_in t row in
          let tail = go rows in
          omega (arith, a, b, one, tail)
