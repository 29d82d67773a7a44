-- The tracks of an answer are pairwise different, where the names of the sections are.
use Rattle.exchange.proofs.Common.{arith, ◌≡◌, ◌≢◌, ◌++◌, inl, inr, ℕ, Bool, true, false, cond, not, List, [], ◌∷◌, Option, Some, None}
use Rattle.exchange.proofs.Common.{IfSome, All, filter, filter_map, find, map, option_to_list, refl, subst, sym, ap, ◌∙◌, append-nil}
use Rattle.exchange.proofs.Common.{append_cancel_left, All-append, All-cons, All-head, All-nil, All-tail, filter_map-append, AllPairs-cons}
use Rattle.exchange.proofs.Common.{AllZip, cons_option, flat_map, list_any, ◌&&◌, ◌⊎◌, bytes_eq, codes, FormatParam, PayloadParams}
use Rattle.exchange.proofs.Common.{direction_attribute, MediaAttribute, Proto, Srtp, Sctp, Setup, SimulcastLayer, EXTMAP_ALLOW_MIXED, FIR}
use Rattle.exchange.proofs.Common.{NACK, PLI, REMB, TRANSPORT_CC, MediaLine, Sdp, is_mid, maps, is_of_type, made, feedback_attrs}
use Rattle.exchange.proofs.Common.{feedback_line, fmtp_line, format_attrs, format_values, red_attrs, red_lines, row_attrs, rtx_attrs}
use Rattle.exchange.proofs.Common.{rtx_lines, AreMidsDistinct, section_mids, receives, Candidate, Direction}
use Rattle.exchange.proofs.offer.OfferNameLaws.{NamesDiffer, OtherName, name_differ_from}
use Rattle.exchange.proofs.offer.RuleLaws.{sections_shape}
use Rattle.exchange.specs.answer.Accepted.{are_layers_told, candidate_line, accepted_channel_lines, accepted_first_lines, accepted_frame}
use Rattle.exchange.specs.answer.Accepted.{layer_lines}
use Rattle.exchange.specs.answer.Accepted.{media_lines}
use Rattle.exchange.specs.answer.Accepted.{msid_lines, track_id}
use Rattle.exchange.specs.answer.AcceptedOffer.{section_tracks, track_of}
use Rattle.exchange.specs.answer.AnsweredSection.{AnswersSection, SaysSectionChoice}
use Rattle.exchange.specs.answer.Layers.{answered_layers, answered_rid, answered_rids, is_rid_left, is_layer_named, layers_line}
use Rattle.exchange.specs.answer.Layers.{received_layers}
use Rattle.exchange.specs.answer.Layers.{sent_layers, rid_types_left}
use Rattle.exchange.specs.answer.RejectedSection.{direction_over, first_rejected_type, first_rejected_line, rejecting}
use Rattle.exchange.specs.declared.answer.choice.Choice.{Choice}
use Rattle.exchange.specs.declared.answer.choice.Choice.TheVariants.{Rejected, Media, Channels}
use Rattle.exchange.specs.declared.state.own_side.DataChannels.{DataChannels}
use Rattle.exchange.specs.declared.state.own_side.OwnSide.{OwnSide}
use Rattle.exchange.specs.offer.Rules.{HasOfferedShape}
use Rattle.exchange.specs.section.RepeatedLines.{is_repeated, repeated_lines}
use Rattle.exchange.specs.section.Stopped.{name_of}
use Rattle.str0m_sdp.specs.declared.attribute.MediaAttribute.TheVariants as media
use Rattle.str0m_values.specs.declared.direction.Direction.TheVariants as way

-- lines that say no track
abbrev AreAnswerLinesTrackless : List MediaAttribute → Type 0
AreAnswerLinesTrackless lines = filter_map track_of lines ≡ []

answer_trackless_both : (xs ys : List MediaAttribute) → AreAnswerLinesTrackless xs → AreAnswerLinesTrackless ys
    → AreAnswerLinesTrackless (xs ++ ys)
answer_trackless_both xs ys x y = filter_map-append track_of xs ys ∙ ap (λ (found : List (List ℕ)). found ++ filter_map track_of ys) x ∙ y

-- ---- of rows

answer_feedback_trackless : (pt : ℕ) (value : List ℕ) (b : Bool) → AreAnswerLinesTrackless (feedback_line pt value b)
answer_feedback_trackless pt value true = refl
answer_feedback_trackless pt value false = refl

answer_fmtp_trackless : (pt : ℕ) (values : List FormatParam) → AreAnswerLinesTrackless (fmtp_line pt values)
answer_fmtp_trackless pt [] = refl
answer_fmtp_trackless pt (value ∷ values) = refl

rtx_trackless : (row : PayloadParams) (pt : Option ℕ) → AreAnswerLinesTrackless (rtx_lines row pt)
rtx_trackless row None = refl
rtx_trackless row (Some pt) = refl

answer_red_trackless : (row : PayloadParams) (pt : Option ℕ) → AreAnswerLinesTrackless (red_lines row pt)
answer_red_trackless row None = refl
answer_red_trackless row (Some pt) = refl

answer_feedbacks_trackless : (row : PayloadParams) → AreAnswerLinesTrackless (feedback_attrs row)
answer_feedbacks_trackless row =
    let cc_line : List MediaAttribute = feedback_line row.pt TRANSPORT_CC.now row.fb_transport_cc in
    let remb : List MediaAttribute = feedback_line row.pt REMB.now row.fb_remb in
    let fir : List MediaAttribute = feedback_line row.pt FIR.now row.fb_fir in
    let nack : List MediaAttribute = feedback_line row.pt NACK.now row.fb_nack in
    let pli : List MediaAttribute = feedback_line row.pt PLI.now row.fb_pli in
    answer_trackless_both cc_line (remb ++ (fir ++ (nack ++ pli))) (answer_feedback_trackless row.pt TRANSPORT_CC.now row.fb_transport_cc)
    (answer_trackless_both remb (fir ++ (nack ++ pli)) (answer_feedback_trackless row.pt REMB.now row.fb_remb)
    (answer_trackless_both fir (nack ++ pli) (answer_feedback_trackless row.pt FIR.now row.fb_fir)
    (answer_trackless_both nack pli (answer_feedback_trackless row.pt NACK.now row.fb_nack)
    (answer_feedback_trackless row.pt PLI.now row.fb_pli))))

row_trackless : (row : PayloadParams) → AreAnswerLinesTrackless (row_attrs row)
row_trackless row =
    answer_trackless_both (feedback_attrs row) (format_attrs row ++ (rtx_attrs row ++ red_attrs row)) (answer_feedbacks_trackless row)
    (answer_trackless_both (format_attrs row) (rtx_attrs row ++ red_attrs row)
    (answer_fmtp_trackless row.pt (format_values row.spec.codec row.spec.format))
    (answer_trackless_both (rtx_attrs row) (red_attrs row) (rtx_trackless row row.resend) (answer_red_trackless row row.red)))

rows_trackless : (rows : List PayloadParams) → AreAnswerLinesTrackless (flat_map row_attrs rows)
rows_trackless [] = refl
rows_trackless (row ∷ rows) = answer_trackless_both (row_attrs row) (flat_map row_attrs rows) (row_trackless row) (rows_trackless rows)

-- ---- of frames

candidates_trackless : (candidates : List Candidate) → AreAnswerLinesTrackless (map candidate_line candidates)
candidates_trackless [] = refl
candidates_trackless (candidate ∷ candidates) = candidates_trackless candidates

direction_trackless : (direction : Direction) → AreAnswerLinesTrackless (direction_attribute direction ∷ [])
direction_trackless way.SendRecv = refl
direction_trackless way.SendOnly = refl
direction_trackless way.RecvOnly = refl
direction_trackless way.Inactive = refl

answer_repeated_trackless : (known : List (List ℕ)) (attrs : List MediaAttribute)
    → AreAnswerLinesTrackless (filter (is_repeated known) attrs)
answer_repeated_trackless known [] = refl
answer_repeated_trackless known (media.RtcpMux ∷ attrs) = answer_repeated_trackless known attrs
answer_repeated_trackless known (media.RtcpRsize ∷ attrs) = answer_repeated_trackless known attrs
answer_repeated_trackless known (media.ExtMap id ext ∷ attrs) = go (list_any (λ uri. bytes_eq uri ext.uri) known)
    (answer_repeated_trackless known attrs)
  where
    go : (b : Bool) → AreAnswerLinesTrackless (filter (is_repeated known) attrs)
        → AreAnswerLinesTrackless (cond b (media.ExtMap id ext ∷ filter (is_repeated known) attrs) (filter (is_repeated known) attrs))
    go true rec = rec
    go false rec = rec
answer_repeated_trackless known (media.Unused text ∷ attrs) = go (bytes_eq text EXTMAP_ALLOW_MIXED.now)
    (answer_repeated_trackless known attrs) where
      go : (b : Bool) → AreAnswerLinesTrackless (filter (is_repeated known) attrs)
          → AreAnswerLinesTrackless (cond b (media.Unused text ∷ filter (is_repeated known) attrs) (filter (is_repeated known) attrs))
      go true rec = rec
      go false rec = rec
answer_repeated_trackless known (attr ∷ attrs) = answer_repeated_trackless known attrs

rids_trackless : (sent : List SimulcastLayer) (rows : List PayloadParams) (attrs : List MediaAttribute)
    → AreAnswerLinesTrackless (filter_map (answered_rid sent rows) attrs)
rids_trackless sent rows [] = refl
rids_trackless sent rows (media.Rid id direction pts restrictions ∷ attrs) =
    go (bytes_eq direction (codes "send") && (list_any (is_layer_named id.0) sent && is_rid_left rows pts)) (rids_trackless sent rows attrs)
  where
    go : (b : Bool) → AreAnswerLinesTrackless (filter_map (answered_rid sent rows) attrs)
        → AreAnswerLinesTrackless (cons_option (cond b (Some (media.Rid id (codes "recv") (rid_types_left rows pts) restrictions)) None)
        (filter_map (answered_rid sent rows) attrs))
    go true rec = rec
    go false rec = rec
rids_trackless sent rows (attr ∷ attrs) = rids_trackless sent rows attrs

layers_trackless : (layers : List SimulcastLayer) → AreAnswerLinesTrackless (layers_line layers)
layers_trackless [] = refl
layers_trackless (layer ∷ layers) = refl

layer_lines_trackless : (own : OwnSide) (direction : Direction) (offered : MediaLine) (rows : List PayloadParams)
    → AreAnswerLinesTrackless (layer_lines own direction offered rows)
layer_lines_trackless own direction offered rows = go (own.receives_simulcast
    && (receives direction && are_layers_told own.extensions offered)) where
      go : (b : Bool) → AreAnswerLinesTrackless (cond b (answered_layers rows offered) [])
      go true = answer_trackless_both (answered_rids rows offered) (layers_line (received_layers (answered_rids rows offered) offered))
          (rids_trackless (sent_layers offered) rows offered.attrs)
          (layers_trackless (received_layers (answered_rids rows offered) offered))
      go false = refl

-- ---- a section says no track, or the one of its name

abbrev TracksSo : MediaLine → Type 0
TracksSo m = (section_tracks m ≡ []) ⊎ ((mid : List ℕ) × (name_of m ≡ Some mid) × (section_tracks m ≡ track_id mid ∷ []))

-- lines of payload types are none of tracks
kept_tracks : (attrs : List MediaAttribute) → filter_map track_of (filter (λ attr. not (is_of_type attr)) attrs) ≡ filter_map track_of attrs
kept_tracks [] = refl
kept_tracks (media.RtpMap pt value ∷ attrs) = kept_tracks attrs
kept_tracks (media.RtcpFb pt value ∷ attrs) = kept_tracks attrs
kept_tracks (media.Fmtp pt values ∷ attrs) = kept_tracks attrs
kept_tracks (media.Msid msid ∷ attrs) = ap (λ (found : List (List ℕ)). msid.track_id ∷ found) (kept_tracks attrs)
kept_tracks (attr ∷ attrs) = kept_tracks attrs

media_tracks : (own : OwnSide) (offered : MediaLine) (mid : List ℕ) (direction : Direction) (rows : List PayloadParams)
    → filter_map track_of (media_lines own offered mid direction rows) ≡ filter_map track_of (msid_lines own direction mid)
media_tracks own offered mid direction rows =
    let a : List MediaAttribute = direction_attribute direction ∷ [] in
    let b : List MediaAttribute = map candidate_line own.candidates in
    let c : List MediaAttribute = repeated_lines own.extensions offered in
    let d : List MediaAttribute = msid_lines own direction mid in
    let e : List MediaAttribute = layer_lines own direction offered rows in
    filter_map-append track_of (a ++ b ++ c ++ d) e
    ∙ ap (λ (found : List (List ℕ)). filter_map track_of (a ++ b ++ c ++ d) ++ found) (layer_lines_trackless own direction offered rows)
    ∙ append-nil (filter_map track_of (a ++ b ++ c ++ d))
    ∙ filter_map-append track_of (a ++ b ++ c) d
    ∙ ap (λ (found : List (List ℕ)). found ++ filter_map track_of d)
    (answer_trackless_both (a ++ b) c (answer_trackless_both a b (direction_trackless direction) (candidates_trackless own.candidates))
    (answer_repeated_trackless own.extensions offered.attrs))

accepted_tracks : (own : OwnSide) (offered : MediaLine) (mid : List ℕ) (role : Setup) (direction : Direction) (rows : List PayloadParams)
    → section_tracks (made (accepted_frame offered (accepted_first_lines own mid role ++ media_lines own offered mid direction rows)) rows)
    ≡ filter_map track_of (msid_lines own direction mid)
accepted_tracks own offered mid role direction rows =
    let lines : List MediaAttribute = accepted_first_lines own mid role ++ media_lines own offered mid direction rows in
    let frame : List MediaAttribute = filter (λ attr. not (is_of_type attr)) lines in
    filter_map-append track_of frame (flat_map row_attrs rows)
    ∙ ap (λ (found : List (List ℕ)). filter_map track_of frame ++ found) (rows_trackless rows)
    ∙ append-nil (filter_map track_of frame)
    ∙ kept_tracks lines
    ∙ media_tracks own offered mid direction rows

media_so : (own : OwnSide) (offered : MediaLine) (mid : List ℕ) (role : Setup) (direction : Direction) (rows : List PayloadParams)
    → TracksSo (made (accepted_frame offered (accepted_first_lines own mid role ++ media_lines own offered mid direction rows)) rows)
media_so own offered mid role way.SendRecv rows = inr (mid, refl, accepted_tracks own offered mid role way.SendRecv rows)
media_so own offered mid role way.SendOnly rows = inr (mid, refl, accepted_tracks own offered mid role way.SendOnly rows)
media_so own offered mid role way.RecvOnly rows = inl (accepted_tracks own offered mid role way.RecvOnly rows)
media_so own offered mid role way.Inactive rows = inl (accepted_tracks own offered mid role way.Inactive rows)

mid_trackless : (attrs : List MediaAttribute) → AreAnswerLinesTrackless (option_to_list (find is_mid attrs))
mid_trackless [] = refl
mid_trackless (media.Mid mid ∷ attrs) = refl
mid_trackless (attr ∷ attrs) = mid_trackless attrs

rejected_mapped_trackless : (pt : ℕ) (attrs : List MediaAttribute) → AreAnswerLinesTrackless (option_to_list (find (maps pt) attrs))
rejected_mapped_trackless pt [] = refl
rejected_mapped_trackless pt (media.RtpMap n value ∷ attrs) = go (maps pt (media.RtpMap n value)) (rejected_mapped_trackless pt attrs) where
  go : (b : Bool) → AreAnswerLinesTrackless (option_to_list (find (maps pt) attrs))
      → AreAnswerLinesTrackless (option_to_list (cond b (Some (media.RtpMap n value)) (find (maps pt) attrs)))
  go true rec = refl
  go false rec = rec
rejected_mapped_trackless pt (attr ∷ attrs) = rejected_mapped_trackless pt attrs

rejected_over_trackless : (proto : Proto) → AreAnswerLinesTrackless (direction_over proto)
rejected_over_trackless Srtp = refl
rejected_over_trackless Sctp = refl

rejected_trackless : (offered : MediaLine) → section_tracks (rejecting offered) ≡ []
rejected_trackless offered =
    let mapped : List MediaAttribute = first_rejected_line (maps (first_rejected_type offered.pts)) offered.attrs in
    answer_trackless_both (first_rejected_line is_mid offered.attrs) (direction_over offered.proto ++ mapped) (mid_trackless offered.attrs)
    (answer_trackless_both (direction_over offered.proto) mapped (rejected_over_trackless offered.proto)
    (rejected_mapped_trackless (first_rejected_type offered.pts) offered.attrs))

answer_channels_trackless : (own : OwnSide) (offered : MediaLine) (mid : List ℕ) (role : Setup) (channels : DataChannels)
    → section_tracks (accepted_frame offered (accepted_first_lines own mid role ++ accepted_channel_lines channels
    ++ map candidate_line own.candidates)) ≡ []
answer_channels_trackless own offered mid role channels =
    answer_trackless_both (accepted_first_lines own mid role ++ accepted_channel_lines channels) (map candidate_line own.candidates) refl
    (candidates_trackless own.candidates)

offer_choice_so : (own : OwnSide) (offer : Sdp) (offered answered : MediaLine) (choice : Choice)
    → SaysSectionChoice own offer offered choice answered
    → TracksSo answered
offer_choice_so own offer offered answered Rejected says = subst TracksSo (sym says) (inl (rejected_trackless offered))
offer_choice_so own offer offered answered (Media mid rows) says = subst TracksSo (sym says.says)
    (media_so own offered mid says.role says.direction rows)
offer_choice_so own offer offered answered (Channels mid channels) says = subst TracksSo (sym says.says)
    (inl (answer_channels_trackless own offered mid says.role channels))

-- ---- all sections

offer_all_so : (own : OwnSide) (ours : List PayloadParams) (offer : Sdp) (offered answered : List MediaLine)
    → AllZip (AnswersSection own ours offer) offered answered → All TracksSo answered
offer_all_so own ours offer [] [] zip = All-nil TracksSo
offer_all_so own ours offer [] (m ∷ ms) zip = absurd zip
offer_all_so own ours offer (theirs ∷ more) [] zip = absurd zip
offer_all_so own ours offer (theirs ∷ more) (m ∷ ms) zip =
    All-cons TracksSo m ms (offer_choice_so own offer theirs m zip.0.choice zip.0.says) (offer_all_so own ours offer more ms zip.1)

same_mids : (offered answered : List MediaLine) → AllZip HasOfferedShape offered answered → section_mids answered ≡ section_mids offered
same_mids [] [] zip = refl
same_mids [] (m ∷ ms) zip = absurd zip
same_mids (theirs ∷ more) [] zip = absurd zip
same_mids (theirs ∷ more) (m ∷ ms) zip =
    ap (λ (name : Option (List ℕ)). cons_option name (section_mids ms)) zip.0.name
    ∙ ap (cons_option (name_of theirs)) (same_mids more ms zip.1)

-- the track of a name is none of sections of other names
track_apart : (mid : List ℕ) (ms : List MediaLine) → All (OtherName (Some mid)) ms → All TracksSo ms
    → All (λ track. track_id mid ≢ track) (flat_map section_tracks ms)
track_apart mid [] other so = All-nil (λ (track : List ℕ). track_id mid ≢ track)
track_apart mid (m ∷ ms) other so =
    All-append P (section_tracks m) (flat_map section_tracks ms)
    (here (All-head (OtherName (Some mid)) m ms other) (All-head TracksSo m ms so))
    (track_apart mid ms (All-tail (OtherName (Some mid)) m ms other) (All-tail TracksSo m ms so)) where
      P : List ℕ → Type 0
      P track = track_id mid ≢ track

      here : OtherName (Some mid) m → TracksSo m → All P (section_tracks m)
      here apart (inl none) = subst (All P) (sym none) (All-nil P)
      here apart (inr said) =
          let differs : said.0 ≢ mid = subst (λ (name : Option (List ℕ)). IfSome name (λ k. k ≢ mid)) said.1 apart in
          subst (All P) (sym said.2) (All-cons P (track_id said.0) []
          (λ e. differs (sym (append_cancel_left (codes "track-") mid said.0 e))) (All-nil P))

distinct_tracks : (ms : List MediaLine) → NamesDiffer ms → All TracksSo ms → AreMidsDistinct (flat_map section_tracks ms)
distinct_tracks [] differ so = λ i j d lt within. absurd (omega arith)
distinct_tracks (m ∷ ms) differ so = go (All-head TracksSo m ms so) (distinct_tracks ms differ.1 (All-tail TracksSo m ms so)) where
  go : TracksSo m → AreMidsDistinct (flat_map section_tracks ms) → AreMidsDistinct (section_tracks m ++ flat_map section_tracks ms)
  go (inl none) rec = subst (λ (found : List (List ℕ)). AreMidsDistinct (found ++ flat_map section_tracks ms)) (sym none) rec
  go (inr said) rec =
      subst (λ (found : List (List ℕ)). AreMidsDistinct (found ++ flat_map section_tracks ms)) (sym said.2)
      (AllPairs-cons (λ (a b : List ℕ). a ≢ b) (track_id said.0) (flat_map section_tracks ms)
      (track_apart said.0 ms (subst (λ (name : Option (List ℕ)). All (OtherName name) ms) said.1 differ.0) (All-tail TracksSo m ms so)) rec)

-- an answer has the names of its offer
pub offer_same_names : (own : OwnSide) (ours : List PayloadParams) (offer : Sdp) (answered : List MediaLine)
    → AllZip (AnswersSection own ours offer) offer.media_lines answered
    → section_mids answered ≡ section_mids offer.media_lines
offer_same_names own ours offer answered answers = same_mids offer.media_lines answered (sections_shape own ours offer answered answers)

pub tracks_differ : (own : OwnSide) (ours : List PayloadParams) (offer : Sdp) (answered : List MediaLine)
    → AllZip (AnswersSection own ours offer) offer.media_lines answered
    → AreMidsDistinct (section_mids offer.media_lines) → AreMidsDistinct (flat_map section_tracks answered)
tracks_differ own ours offer answered answers distinct =
    distinct_tracks answered (name_differ_from answered
    (subst AreMidsDistinct (sym (offer_same_names own ours offer answered answers)) distinct))
    (offer_all_so own ours offer offer.media_lines answered answers)
