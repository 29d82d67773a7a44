-- What the lines of one row answer: to questions on its own types exactly its own, to those on other types nothing.
use Rattle.str0m_formats.specs.declared.codec.Codec.TheVariants as codec
use Rattle.str0m_sdp.proofs.Common.{arith, ◌≡◌, ◌==◌, ◌&&◌, ◌||◌, ℕ, Bool, true, false, List, [], ◌∷◌, ◌++◌, Option, Some, None}
use Rattle.str0m_sdp.proofs.Common.{option_to_list, refl, sym, ap, ◌∙◌, AllByRecursion, list_any, ne_eqb, append-nil, list_any-append, when}
use Rattle.str0m_sdp.proofs.Common.{has, types_of, codec_rtp_rate, empty, Codec, CodecSpec, Apt, BarePtList, FormatParam, PayloadParams}
use Rattle.str0m_sdp.proofs.Common.{bytes_eq}
use Rattle.str0m_sdp.proofs.Common.{filter_map, eqb-false, format_all_of_both}
use Rattle.str0m_sdp.proofs.section.MadeSectionFrame.{NameNoType, NamesNoType}
use Rattle.str0m_sdp.proofs.section.RowAttributesReads.{fmtp_lines, red_reads, reads, row_lines_each, all_feedback, all_fmtp, all_rtx}
use Rattle.str0m_sdp.proofs.section.RowAttributesReads.{all_red, row_lines_quiet}
use Rattle.str0m_sdp.proofs.section.RowAttributesReads.{row_append_said, row_parts_said}
use Rattle.str0m_sdp.proofs.section.SectionRowsApart.{row_type_is_itself, pt_apart}
use Rattle.str0m_sdp.proofs.section.SectionRowsParts.{rows_all_always, rows_none_passes, rows_or_false, rows_all_weaker}
use Rattle.str0m_sdp.specs.attribute.Feedback.{is_feedback}
use Rattle.str0m_sdp.specs.attribute.RtpMap.{map_of_spec, spec_of_map}
use Rattle.str0m_sdp.specs.declared.attribute.MediaAttribute.{MediaAttribute}
use Rattle.str0m_sdp.specs.declared.attribute.MediaAttribute.TheVariants.{RtpMap, Fmtp}
use Rattle.str0m_sdp.specs.declared.label.TheConstants.{TRANSPORT_CC, REMB, FIR, NACK, PLI}
use Rattle.str0m_sdp.specs.section.Companions.{companion_in, names_type}
use Rattle.str0m_sdp.specs.section.Mappings.{mapping, is_mapped_to}
use Rattle.str0m_sdp.specs.section.RowAttributes.{feedback_line, feedback_attrs, rtx_lines}

pub row_eq_false_flipped : (m n : ℕ) → (m == n) ≡ false → (n == m) ≡ false
row_eq_false_flipped m n h = ne_eqb n m (λ e. eqb-false m n h (sym e))

-- ---- the types that go with a type

row_named_none : (c : Codec) (t : ℕ) (value : FormatParam) → NamesNoType value → names_type c t value ≡ false
row_named_none codec.Rtx t value h = rw h.0 refl
row_named_none codec.Red t value h = rw h.1 refl
row_named_none _ t value h = refl

row_none_named : (c : Codec) (t : ℕ) (v : List FormatParam) → AllByRecursion NamesNoType v → list_any (names_type c t) v ≡ false
row_none_named c t v h = rows_none_passes (names_type c t) v
    (rows_all_weaker NamesNoType (λ x. names_type c t x ≡ false) (row_named_none c t) v h)

pub row_and_false : (a : Bool) → (a && false) ≡ false
row_and_false a = grind arith

row_unless_both : (a b : Bool) (n : ℕ) → b ≡ false → when (a && b) n ≡ None
row_unless_both a b n h = rw h (rw (row_and_false a) refl)

module _ (mapped : List (ℕ × CodecSpec)) (row : PayloadParams) where
  row_quiet_lines : (c : Codec) (t : ℕ) (vs : List (List FormatParam)) → NameNoType vs
      → AllByRecursion (λ v. companion_in c mapped t (Fmtp row.pt v) ≡ None) vs
  row_quiet_lines c t vs h =
      rows_all_weaker _ (λ v. companion_in c mapped t (Fmtp row.pt v) ≡ None)
      (λ v k. row_unless_both (is_mapped_to c mapped row.pt) _ row.pt (row_none_named c t v k)) vs h

  -- its lines of RTX and of RED name its primary type alone
  row_other_named : (c : Codec) (t : ℕ) (value : FormatParam) (n : ℕ) → names_type c t value ≡ false
      → companion_in c mapped t (Fmtp n (value ∷ [])) ≡ None
  row_other_named c t value n h = row_unless_both (is_mapped_to c mapped n) _ n (rw h refl)

  -- with a type that isn't the row's primary one
  pub row_none_with : (c : Codec) (vs : List (List FormatParam)) (t : ℕ) → NameNoType vs → (row.pt == t) ≡ false
      → filter_map (companion_in c mapped t) (reads row vs) ≡ []
  row_none_with c vs t none h =
      row_lines_quiet (companion_in c mapped t) (reads row vs)
      (row_lines_each (λ a. companion_in c mapped t a ≡ None) row vs (λ m. refl) (λ w. refl) (row_quiet_lines c t vs none)
      (λ n e. (λ m. refl, row_other_named c t (Apt row.pt) n (apt c)))
      (λ n e. (λ m. refl, row_other_named c t (BarePtList row.pt) n (list c))))
    where
      apt : (c : Codec) → names_type c t (Apt row.pt) ≡ false
      apt codec.Rtx = h
      apt _ = refl

      list : (c : Codec) → names_type c t (BarePtList row.pt) ≡ false
      list codec.Red = h
      list _ = refl

  -- with its own primary type, where its RTX and its RED type are mapped to these
  pub rtx_own : (vs : List (List FormatParam)) → NameNoType vs → ((n : ℕ) → row.resend ≡ Some n → is_mapped_to codec.Rtx mapped n ≡ true)
      → filter_map (companion_in codec.Rtx mapped row.pt) (reads row vs) ≡ option_to_list row.resend
  rtx_own vs none is =
      row_parts_said (companion_in codec.Rtx mapped row.pt) row vs [] (option_to_list row.resend) [] refl (λ w. refl)
      (row_lines_quiet _ (fmtp_lines row.pt vs)
      (all_fmtp (λ a. companion_in codec.Rtx mapped row.pt a ≡ None) row vs (row_quiet_lines codec.Rtx row.pt vs none)))
      (go row.resend is)
      (row_lines_quiet _ (red_reads row row.red)
      (all_red (λ a. companion_in codec.Rtx mapped row.pt a ≡ None) row row.red
      (λ n e. (λ m. refl, row_unless_both (is_mapped_to codec.Rtx mapped n) _ n refl))))
      ∙ append-nil (option_to_list row.resend)
    where
      go : (o : Option ℕ) → ((n : ℕ) → o ≡ Some n → is_mapped_to codec.Rtx mapped n ≡ true)
          → filter_map (companion_in codec.Rtx mapped row.pt) (rtx_lines row o) ≡ option_to_list o
      go None f = refl
      go (Some n) f = rw (f n refl) (rw (row_type_is_itself row.pt) refl)

  pub red_own : (vs : List (List FormatParam)) → NameNoType vs → ((n : ℕ) → row.red ≡ Some n → is_mapped_to codec.Red mapped n ≡ true)
      → filter_map (companion_in codec.Red mapped row.pt) (reads row vs) ≡ option_to_list row.red
  red_own vs none is =
      row_parts_said (companion_in codec.Red mapped row.pt) row vs [] [] (option_to_list row.red) refl (λ w. refl)
      (row_lines_quiet _ (fmtp_lines row.pt vs)
      (all_fmtp (λ a. companion_in codec.Red mapped row.pt a ≡ None) row vs (row_quiet_lines codec.Red row.pt vs none)))
      (row_lines_quiet _ (rtx_lines row row.resend)
      (all_rtx (λ a. companion_in codec.Red mapped row.pt a ≡ None) row row.resend
      (λ n e. (λ m. refl, row_unless_both (is_mapped_to codec.Red mapped n) _ n refl))))
      (go row.red is)
    where
      go : (o : Option ℕ) → ((n : ℕ) → o ≡ Some n → is_mapped_to codec.Red mapped n ≡ true)
          → filter_map (companion_in codec.Red mapped row.pt) (red_reads row o) ≡ option_to_list o
      go None f = refl
      go (Some n) f = rw (f n refl) (rw (row_type_is_itself row.pt) refl)

-- ---- feedback

pub feedback_apart : (row : PayloadParams) (vs : List (List FormatParam)) (t : ℕ) (words : List ℕ) → has (types_of row) t ≡ false
    → list_any (is_feedback t words) (reads row vs) ≡ false
feedback_apart row vs t words h =
    rows_none_passes (is_feedback t words) (reads row vs)
    (row_lines_each (λ a. is_feedback t words a ≡ false) row vs (λ m. refl) (λ w. rw (pt_apart row t h) refl)
    (rows_all_always _ (λ v. refl) vs)
    (λ n e. (λ m. refl, refl)) (λ n e. (λ m. refl, refl)))

row_one_flag : (t : ℕ) (w words : List ℕ) (b : Bool) → list_any (is_feedback t words) (feedback_line t w b) ≡ (b && bytes_eq w words)
row_one_flag t w words b = grind arith

row_flag_line : (t : ℕ) (w words : List ℕ) (b c : Bool) (xs : List MediaAttribute) → list_any (is_feedback t words) xs ≡ c
    → list_any (is_feedback t words) (feedback_line t w b ++ xs) ≡ ((b && bytes_eq w words) || c)
row_flag_line t w words b c xs e = grind arith

pub feedback_own : (row : PayloadParams) (vs : List (List FormatParam)) (words : List ℕ)
    → list_any (is_feedback row.pt words) (reads row vs)
    ≡ ((row.fb_transport_cc && bytes_eq TRANSPORT_CC.now words) ||
    ((row.fb_remb && bytes_eq REMB.now words) || ((row.fb_fir && bytes_eq FIR.now words)
    || ((row.fb_nack && bytes_eq NACK.now words) || (row.fb_pli && bytes_eq PLI.now words)))))
feedback_own row vs words =
    list_any-append (is_feedback row.pt words) (feedback_attrs row) rest
    ∙ ap (λ b. list_any (is_feedback row.pt words) (feedback_attrs row) || b) quiet_rest
    ∙ rows_or_false _
    ∙ row_flag_line row.pt _ words row.fb_transport_cc _ _ (row_flag_line row.pt _ words row.fb_remb _ _
    (row_flag_line row.pt _ words row.fb_fir _ _ (row_flag_line row.pt _ words row.fb_nack _ (feedback_line row.pt PLI.now row.fb_pli)
    (row_one_flag row.pt PLI.now words row.fb_pli))))
  where
    rest : List MediaAttribute
    rest = fmtp_lines row.pt vs ++ (rtx_lines row row.resend ++ red_reads row row.red)

    quiet_rest : list_any (is_feedback row.pt words) rest ≡ false
    quiet_rest =
        rows_none_passes (is_feedback row.pt words) rest
        (format_all_of_both (λ a. is_feedback row.pt words a ≡ false) _ _
        (all_fmtp (λ a. is_feedback row.pt words a ≡ false) row vs (rows_all_always _ (λ v. refl) vs))
        (format_all_of_both (λ a. is_feedback row.pt words a ≡ false) _ _
        (all_rtx (λ a. is_feedback row.pt words a ≡ false) row row.resend (λ n e. (λ m. refl, refl)))
        (all_red (λ a. is_feedback row.pt words a ≡ false) row row.red (λ n e. (λ m. refl, refl)))))

-- ---- the codecs of the types

abbrev pub rtx_entry : PayloadParams → Option ℕ → List (ℕ × CodecSpec)
rtx_entry row None = []
rtx_entry row (Some pt) =
    (pt, record { codec = codec.Rtx; clock_rate = codec_rtp_rate row.spec.codec row.spec.clock_rate; channels = None; format = empty }) ∷ []

abbrev pub red_entry : PayloadParams → Option ℕ → List (ℕ × CodecSpec)
red_entry row None = []
red_entry row (Some pt) = (
  pt,
  record {
    codec = codec.Red;
    clock_rate = codec_rtp_rate row.spec.codec row.spec.clock_rate;
    channels = row.spec.channels;
    format = empty;
  },
) ∷ []

-- the types of a row with what each stands for: the row's codec with nothing said of its format, RTX, RED
abbrev pub row_entries : PayloadParams → List (ℕ × CodecSpec)
row_entries row = (row.pt, record row.spec { format = empty }) ∷ (rtx_entry row row.resend ++ red_entry row row.red)

-- the mapping that is printed names the row's codec at its rate and with its channels
abbrev pub MappingNamesItself : CodecSpec → Type 0
MappingNamesItself spec = spec_of_map (map_of_spec spec) ≡ record spec { format = empty }

pub mapping_own : (row : PayloadParams) (vs : List (List FormatParam)) → MappingNamesItself row.spec
    → filter_map mapping (reads row vs) ≡ row_entries row
mapping_own row vs same =
    row_append_said mapping (RtpMap row.pt (map_of_spec row.spec) ∷ []) (feedback_attrs row ++ after_feedback)
    ((row.pt, record row.spec { format = empty }) ∷ []) (rtx_entry row row.resend ++ red_entry row row.red)
    (ap (λ spec. (row.pt, spec) ∷ []) same)
    (row_append_said mapping (feedback_attrs row) after_feedback [] _
    (row_lines_quiet mapping (feedback_attrs row) (all_feedback (λ a. mapping a ≡ None) row (λ w. refl)))
    (row_append_said mapping (fmtp_lines row.pt vs) (rtx_lines row row.resend ++ red_reads row row.red) [] _
    (row_lines_quiet mapping (fmtp_lines row.pt vs) (all_fmtp (λ a. mapping a ≡ None) row vs (rows_all_always _ (λ v. refl) vs)))
    (row_append_said mapping (rtx_lines row row.resend) (red_reads row row.red) _ _ (rtx row.resend) (red row.red))))
  where
    after_feedback : List MediaAttribute
    after_feedback = fmtp_lines row.pt vs ++ (rtx_lines row row.resend ++ red_reads row row.red)

    rtx : (o : Option ℕ) → filter_map mapping (rtx_lines row o) ≡ rtx_entry row o
    rtx None = refl
    rtx (Some n) = refl

    red : (o : Option ℕ) → filter_map mapping (red_reads row o) ≡ red_entry row o
    red None = refl
    red (Some n) = refl
