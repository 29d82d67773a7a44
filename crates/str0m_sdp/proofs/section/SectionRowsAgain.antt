-- The rows of a section of plain, distinct rows: these rows again, unlocked and in order.
use Rattle.str0m_formats.specs.declared.codec.Codec.TheVariants as codec
use Rattle.str0m_formats.specs.round.Choices.{has_events}
use Rattle.str0m_formats.specs.row.KindRows.{row_content_has_audio}
use Rattle.str0m_sdp.proofs.Common.{arith, ◌≡◌, ◌≢◌, ◌&&◌, ◌||◌, ℕ, Bool, true, false, cond, List, [], ◌∷◌, ◌++◌, map, Option, Some, None}
use Rattle.str0m_sdp.proofs.Common.{refl, sym, ap, ◌∙◌, subst, option_map, or_left, or_right, AllByRecursion, AllZip, flat_map, cons_option}
use Rattle.str0m_sdp.proofs.Common.{filter_map-append, filter-append, codec_content, events, other, format_of_fmtp, empty, types_of, types}
use Rattle.str0m_sdp.proofs.Common.{SameRow, same_codec, has, AllTypesDistinct, Codec, FormatParam, PayloadParams, IsPlain, ◌==◌, filter}
use Rattle.str0m_sdp.proofs.Common.{filter_map, CodecContent, audio, video, row_content_has_video}
use Rattle.str0m_sdp.proofs.section.MadeSectionFrame.{HasNoTypes, NameNoType}
use Rattle.str0m_sdp.proofs.section.MappingsBack.{IsMappingSaid, unlocked_row, section, mapped_is, mapped_among, entry_pt, entry_rtx}
use Rattle.str0m_sdp.proofs.section.MappingsBack.{entry_red}
use Rattle.str0m_sdp.proofs.section.RowAttributesAnswers.{row_entries, rtx_entry, red_entry}
use Rattle.str0m_sdp.proofs.section.RowAttributesQuestions.{row_attrs_of, row_values_are, feedback_is, SayFeedback, rtx_is, red_is}
use Rattle.str0m_sdp.proofs.section.SectionRowsApart.{RowRoles, row_roles_apart, row_distinct, row_type_is_itself, has_pt, has_rtx, has_red}
use Rattle.str0m_sdp.proofs.section.SectionRowsApart.{row_has_at-append}
use Rattle.str0m_sdp.proofs.section.SectionRowsParts.{rows_all_weaker, rows_taken_apart, rows_each_among}
use Rattle.str0m_sdp.specs.declared.section.media_line.MediaLine.{MediaLine}
use Rattle.str0m_sdp.specs.section.Companions.{rtx_companion, red_companion}
use Rattle.str0m_sdp.specs.section.Mappings.{mapped, is_mapped_to}
use Rattle.str0m_sdp.specs.section.SectionRows.{primary_types, is_kept, row as row_at, row_with, rows as rows_of}

has_types : (before : List PayloadParams) (row : PayloadParams) (after : List PayloadParams) (t : ℕ) → has (types_of row) t ≡ true
    → has (types (before ++ row ∷ after)) t ≡ true
has_types [] row after t h = row_has_at-append (types_of row) (types after) t ∙ or_left (has (types_of row) t) _ h
has_types (r ∷ before) row after t h = grind (arith, row_has_at-append, or_right, has_types before row after t h)

row_has_primary : (before : List PayloadParams) (row : PayloadParams) (after : List PayloadParams)
    → has (map (λ r. r.pt) (map unlocked_row (before ++ row ∷ after))) row.pt ≡ true
row_has_primary [] row after = or_left (row.pt == row.pt) _ (row_type_is_itself row.pt)
row_has_primary (r ∷ before) row after = or_right (r.pt == row.pt) _ (row_has_primary before row after)

row_video_or : (c : CodecContent) (b : Bool) → (c ≡ video → b ≡ true) → (row_content_has_video c || b) ≡ b
row_video_or c b h = grind arith

row_feedback_picked : (c : CodecContent) (found mine : Bool) → found ≡ mine → (c ≡ video → mine ≡ true)
    → (row_content_has_video c || found) ≡ mine
row_feedback_picked c found mine e h = ap (λ b. row_content_has_video c || b) e ∙ row_video_or c mine h

row_kept_content : (c : CodecContent) (there : Bool) → c ≢ other → there ≡ true
    → (row_content_has_audio c || (row_content_has_video c || (has_events c && there))) ≡ true
row_kept_content c there h k = grind arith

-- audio alone has RED
no_red : (c : CodecContent) → (c ≡ audio → ⊥) → (red : Option ℕ) → (red ≢ None → c ≡ audio) → None ≡ red
no_red c apart None h = refl
no_red c apart (Some n) h = absurd (apart (h (λ e. cc)))

only_audio_row_has : (c : CodecContent) (red found : Option ℕ) → (red ≢ None → c ≡ audio) → found ≡ red
    → cond (row_content_has_audio c) found None ≡ red
only_audio_row_has audio red found h e = e
only_audio_row_has video red found h e = no_red video (λ same. cc) red h
only_audio_row_has events red found h e = no_red events (λ same. cc) red h
only_audio_row_has other red found h e = no_red other (λ same. cc) red h

kept_rows : {R X Y : Type 0} (p : X → Bool) (f : X → Option Y) (entries : R → List X) (g : R → Y) (rows : List R)
    → AllByRecursion (λ r. filter_map f (filter p (entries r)) ≡ g r ∷ []) rows
    → filter_map f (filter p (flat_map entries rows)) ≡ map g rows
kept_rows p f entries g [] h = refl
kept_rows p f entries g (r ∷ rows) h = grind (arith, filter-append, filter_map-append, kept_rows p f entries g rows h.1)

row_no_others : (m : MediaLine) (row : PayloadParams) (a b : Option ℕ) → filter (is_kept m) (rtx_entry row a ++ red_entry row b) ≡ []
row_no_others m row a b = grind arith

module _ (values : PayloadParams → List (List FormatParam)) (frame : MediaLine) (bare : HasNoTypes frame.attrs) where
  module _ (before : List PayloadParams) (row : PayloadParams) (after : List PayloadParams)
      (plain : AllByRecursion IsPlain (before ++ row ∷ after)) (d : AllTypesDistinct (types (before ++ row ∷ after))) where
    row_roles : RowRoles row
    row_roles = row_roles_apart row (row_distinct before row after d)

    -- what each of its types is mapped to
    pub pt_mapped : (c : Codec) → is_mapped_to c (mapped (section values frame (before ++ row ∷ after))) row.pt
        ≡ same_codec row.spec.codec c
    pt_mapped c =
        ap (λ m. is_mapped_to c m row.pt) (mapped_is values frame (before ++ row ∷ after) bare plain)
        ∙ mapped_among c row.pt before row after d (has_pt row) ∙ entry_pt c row.pt row row_roles refl

    pub rtx_mapped : (c : Codec) (n : ℕ) → row.resend ≡ Some n
        → is_mapped_to c (mapped (section values frame (before ++ row ∷ after))) n ≡ same_codec codec.Rtx c
    rtx_mapped c n is =
        ap (λ m. is_mapped_to c m n) (mapped_is values frame (before ++ row ∷ after) bare plain)
        ∙ mapped_among c n before row after d (has_rtx row n is) ∙ entry_rtx c n row row_roles is

    pub red_mapped : (c : Codec) (n : ℕ) → row.red ≡ Some n
        → is_mapped_to c (mapped (section values frame (before ++ row ∷ after))) n ≡ same_codec codec.Red c
    red_mapped c n is =
        ap (λ m. is_mapped_to c m n) (mapped_is values frame (before ++ row ∷ after) bare plain)
        ∙ mapped_among c n before row after d (has_red row n is) ∙ entry_red c n row row_roles is

    module _ (said : AllByRecursion (λ r. IsMappingSaid r (values r)) (before ++ row ∷ after)) where
      rows_silent : AllByRecursion (λ r. NameNoType (values r)) (before ++ row ∷ after)
      rows_silent = rows_all_weaker _ (λ r. NameNoType (values r)) (λ r s. s.silent) (before ++ row ∷ after) said

      own_row_plain : IsPlain row
      own_row_plain = (rows_taken_apart IsPlain before row after plain).1

      row_said_here : IsMappingSaid row (values row)
      row_said_here = (rows_taken_apart (λ r. IsMappingSaid r (values r)) before row after said).1

      pub rtx_type_is : rtx_companion (section values frame (before ++ row ∷ after)) row.pt ≡ row.resend
      rtx_type_is =
          rtx_is values frame.attrs bare before row after d (mapped (section values frame (before ++ row ∷ after))) rows_silent
          (λ n e. rtx_mapped codec.Rtx n e ∙ refl)

      pub red_type_is : red_companion (section values frame (before ++ row ∷ after)) row.pt row.spec.codec ≡ row.red
      red_type_is =
          only_audio_row_has (codec_content row.spec.codec) row.red _ own_row_plain.redundant
          (red_is values frame.attrs bare before row after d (mapped (section values frame (before ++ row ∷ after))) rows_silent
          (λ n e. red_mapped codec.Red n e ∙ refl))

      same_row : row_with (section values frame (before ++ row ∷ after)) row.pt
          (record row.spec { format = empty }) row.spec.format ≡ unlocked_row row
      same_row = λ i. record {
        pt = row.pt;
        resend = rtx_type_is i;
        red = red_type_is i;
        spec = row.spec;
        fb_transport_cc = fb.transport_cc i;
        fb_fir = row_feedback_picked (codec_content row.spec.codec) _ row.fb_fir fb.fir (λ v. (own_row_plain.as_video v).fir) i;
        fb_nack = row_feedback_picked (codec_content row.spec.codec) _ row.fb_nack fb.nack (λ v. (own_row_plain.as_video v).nack) i;
        fb_pli = row_feedback_picked (codec_content row.spec.codec) _ row.fb_pli fb.pli (λ v. (own_row_plain.as_video v).pli) i;
        fb_remb = row_feedback_picked (codec_content row.spec.codec) _ row.fb_remb fb.remb (λ v. (own_row_plain.as_video v).remb) i;
        locked = false;
      } where
        fb : SayFeedback (row_attrs_of values frame.attrs (before ++ row ∷ after)) row
        fb = feedback_is values frame.attrs bare before row after d

      -- the row of its primary type
      pub row_again : row_at (section values frame (before ++ row ∷ after)) (row.pt, record row.spec { format = empty })
          ≡ Some (unlocked_row row)
      unfolding row_at
      row_again =
          ap (λ o. option_map (row_with (section values frame (before ++ row ∷ after)) row.pt (record row.spec { format = empty })) o)
          (ap (λ vs. format_of_fmtp row.spec.codec vs) (row_values_are values frame.attrs bare before row after d) ∙ row_said_here.format)
          ∙ ap (λ r. Some r) same_row

      -- of its types the primary one alone has a row
      pub one_row : filter_map (row_at (section values frame (before ++ row ∷ after)))
          (filter (is_kept (section values frame (before ++ row ∷ after))) (row_entries row)) ≡ unlocked_row row ∷ []
      one_row =
          ap (λ b. filter_map (row_at m)
          (cond b ((row.pt, record row.spec { format = empty }) ∷ filter (is_kept m)
          (rtx_entry row row.resend ++ red_entry row row.red)) (filter (is_kept m) (rtx_entry row row.resend ++ red_entry row row.red))))
          (row_kept_content (codec_content row.spec.codec) (has (types (before ++ row ∷ after)) row.pt) own_row_plain.carried
          (has_types before row after row.pt (has_pt row)))
          ∙ ap (λ es. filter_map (row_at m) ((row.pt, record row.spec { format = empty }) ∷ es)) (row_no_others m row row.resend row.red)
          ∙ ap (λ o. cons_option o []) row_again
        where
          m : MediaLine
          m = section values frame (before ++ row ∷ after)

  -- the rows that the section describes
  pub rows_are : (rows : List PayloadParams) → AllByRecursion IsPlain rows → AllTypesDistinct (types rows)
      → AllByRecursion (λ r. IsMappingSaid r (values r)) rows
      → rows_of (section values frame rows) ≡ map unlocked_row rows
  unfolding rows_of
  rows_are rows plain d said =
      ap (λ es. filter_map (row_at m) (filter (is_kept m) es)) (mapped_is values frame rows bare plain)
      ∙ kept_rows (is_kept m) (row_at m) row_entries unlocked_row rows (rows_each_among _ rows one)
    where
      m : MediaLine
      m = section values frame rows

      one : (before : List PayloadParams) (row : PayloadParams) (after : List PayloadParams) → rows ≡ before ++ row ∷ after
          → filter_map (row_at m) (filter (is_kept m) (row_entries row)) ≡ unlocked_row row ∷ []
      one before row after e =
          ap (λ xs. filter_map (row_at (section values frame xs)) (filter (is_kept (section values frame xs)) (row_entries row))) e
          ∙ one_row before row after (subst (AllByRecursion IsPlain) e plain) (subst (λ xs. AllTypesDistinct (types xs)) e d)
          (subst (AllByRecursion (λ r. IsMappingSaid r (values r))) e said)

  pub rows_same : (rows : List PayloadParams) → AllByRecursion IsPlain rows → AllTypesDistinct (types rows)
      → AllByRecursion (λ r. IsMappingSaid r (values r)) rows
      → AllZip SameRow (rows_of (section values frame rows)) rows
  rows_same rows plain d said = subst (λ xs. AllZip SameRow xs rows) (sym (rows_are rows plain d said)) (go rows) where
    go : (rows : List PayloadParams) → AllZip SameRow (map unlocked_row rows) rows
    go [] = tt
    go (row ∷ rows) = (refl, go rows)

  pub row_primary_among : (before : List PayloadParams) (row : PayloadParams) (after : List PayloadParams)
      → AllByRecursion IsPlain (before ++ row ∷ after) → AllTypesDistinct (types (before ++ row ∷ after))
      → AllByRecursion (λ r. IsMappingSaid r (values r)) (before ++ row ∷ after)
      → has (primary_types (section values frame (before ++ row ∷ after))) row.pt ≡ true
  row_primary_among before row after plain d said = grind (arith, rows_are, row_has_primary)
