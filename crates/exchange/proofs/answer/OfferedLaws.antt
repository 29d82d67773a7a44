-- An accepted section of media says the lines that need the offer only where the offer says them.
use Rattle.exchange.proofs.Common.{◌≡◌, ℕ, Bool, true, false, cond, not, ◌||◌, List, [], ◌∷◌, ◌++◌, Option, Some, None, All, filter}
use Rattle.exchange.proofs.Common.{filter_map, map, refl, sym, ap, ◌∙◌, false≢true, All-append, All-cons, All-contains_itself, All-filter}
use Rattle.exchange.proofs.Common.{All-nil, All-weaker, list_any-append, Contains, cons_option, flat_map, list_any, ◌&&◌, bytes_eq, codes}
use Rattle.exchange.proofs.Common.{FormatParam, PayloadParams, direction_attribute, MediaAttribute, Setup, SimulcastLayer, FIR, NACK, PLI}
use Rattle.exchange.proofs.Common.{REMB, TRANSPORT_CC, MediaLine, is_of_type, made, feedback_attrs, feedback_line, fmtp_line, format_attrs}
use Rattle.exchange.proofs.Common.{format_values, red_attrs, red_lines, row_attrs, rtx_attrs, rtx_lines, receives, Candidate, Direction}
use Rattle.exchange.specs.answer.Accepted.{are_layers_told, candidate_line, accepted_channel_lines, accepted_first_lines, accepted_frame}
use Rattle.exchange.specs.answer.Accepted.{layer_lines}
use Rattle.exchange.specs.answer.Accepted.{media_lines}
use Rattle.exchange.specs.answer.Accepted.{msid_lines}
use Rattle.exchange.specs.answer.Layers.{answered_layers, answered_rid, answered_rids, is_rid_left, is_layer_named, layers_line}
use Rattle.exchange.specs.answer.Layers.{received_layers}
use Rattle.exchange.specs.answer.Layers.{sent_layers, rid_types_left}
use Rattle.exchange.specs.declared.state.own_side.DataChannels.{DataChannels}
use Rattle.exchange.specs.declared.state.own_side.OwnSide.{OwnSide}
use Rattle.exchange.specs.offer.Rules.{SaysOnlyOffered, needs_offer}
use Rattle.exchange.specs.section.RepeatedLines.{is_repeated, repeated_lines}
use Rattle.str0m_sdp.specs.declared.attribute.MediaAttribute.TheVariants as media
use Rattle.str0m_values.specs.declared.direction.Direction.TheVariants as way

abbrev WasOffered : MediaLine → MediaAttribute → Type 0
WasOffered offered line = needs_offer line ≡ true → Contains offered.attrs line

-- lines none of which needs the offer
offered_from_none : (offered : MediaLine) (lines : List MediaAttribute) → list_any needs_offer lines ≡ false
    → All (WasOffered offered) lines
offered_from_none offered [] none = All-nil (WasOffered offered)
offered_from_none offered (line ∷ lines) none = go (needs_offer line) refl none (offered_from_none offered lines) where
  go : (b : Bool) → needs_offer line ≡ b → (b || list_any needs_offer lines) ≡ false
      → (list_any needs_offer lines ≡ false → All (WasOffered offered) lines)
      → All (WasOffered offered) (line ∷ lines)
  go true is other rec = absurd (false≢true (sym other))
  go false is other rec = All-cons (WasOffered offered) line lines (λ needs. absurd (false≢true (sym is ∙ needs))) (rec other)

unoffered_both : (xs ys : List MediaAttribute) → list_any needs_offer xs ≡ false → list_any needs_offer ys ≡ false
    → list_any needs_offer (xs ++ ys) ≡ false
unoffered_both xs ys x y = list_any-append needs_offer xs ys ∙ ap (λ (b : Bool). b || list_any needs_offer ys) x ∙ y

-- ---- of rows

feedback_unoffered : (pt : ℕ) (value : List ℕ) (b : Bool) → list_any needs_offer (feedback_line pt value b) ≡ false
feedback_unoffered pt value true = refl
feedback_unoffered pt value false = refl

fmtp_unoffered : (pt : ℕ) (values : List FormatParam) → list_any needs_offer (fmtp_line pt values) ≡ false
fmtp_unoffered pt [] = refl
fmtp_unoffered pt (value ∷ values) = refl

rtx_none : (row : PayloadParams) (pt : Option ℕ) → list_any needs_offer (rtx_lines row pt) ≡ false
rtx_none row None = refl
rtx_none row (Some pt) = refl

red_unoffered : (row : PayloadParams) (pt : Option ℕ) → list_any needs_offer (red_lines row pt) ≡ false
red_unoffered row None = refl
red_unoffered row (Some pt) = refl

feedbacks_unoffered : (row : PayloadParams) → list_any needs_offer (feedback_attrs row) ≡ false
feedbacks_unoffered row =
    let cc_line : List MediaAttribute = feedback_line row.pt TRANSPORT_CC.now row.fb_transport_cc in
    let remb : List MediaAttribute = feedback_line row.pt REMB.now row.fb_remb in
    let fir : List MediaAttribute = feedback_line row.pt FIR.now row.fb_fir in
    let nack : List MediaAttribute = feedback_line row.pt NACK.now row.fb_nack in
    let pli : List MediaAttribute = feedback_line row.pt PLI.now row.fb_pli in
    unoffered_both cc_line (remb ++ (fir ++ (nack ++ pli))) (feedback_unoffered row.pt TRANSPORT_CC.now row.fb_transport_cc)
    (unoffered_both remb (fir ++ (nack ++ pli)) (feedback_unoffered row.pt REMB.now row.fb_remb)
    (unoffered_both fir (nack ++ pli) (feedback_unoffered row.pt FIR.now row.fb_fir)
    (unoffered_both nack pli (feedback_unoffered row.pt NACK.now row.fb_nack) (feedback_unoffered row.pt PLI.now row.fb_pli))))

row_none : (row : PayloadParams) → list_any needs_offer (row_attrs row) ≡ false
row_none row =
    unoffered_both (feedback_attrs row) (format_attrs row ++ (rtx_attrs row ++ red_attrs row)) (feedbacks_unoffered row)
    (unoffered_both (format_attrs row) (rtx_attrs row ++ red_attrs row)
    (fmtp_unoffered row.pt (format_values row.spec.codec row.spec.format))
    (unoffered_both (rtx_attrs row) (red_attrs row) (rtx_none row row.resend) (red_unoffered row row.red)))

rows_none : (rows : List PayloadParams) → list_any needs_offer (flat_map row_attrs rows) ≡ false
rows_none [] = refl
rows_none (row ∷ rows) = unoffered_both (row_attrs row) (flat_map row_attrs rows) (row_none row) (rows_none rows)

-- ---- of frames

candidates_none : (candidates : List Candidate) → list_any needs_offer (map candidate_line candidates) ≡ false
candidates_none [] = refl
candidates_none (candidate ∷ candidates) = candidates_none candidates

direction_none : (direction : Direction) → list_any needs_offer (direction_attribute direction ∷ []) ≡ false
direction_none way.SendRecv = refl
direction_none way.SendOnly = refl
direction_none way.RecvOnly = refl
direction_none way.Inactive = refl

msid_none : (own : OwnSide) (direction : Direction) (mid : List ℕ) → list_any needs_offer (msid_lines own direction mid) ≡ false
msid_none own way.SendRecv mid = refl
msid_none own way.SendOnly mid = refl
msid_none own way.RecvOnly mid = refl
msid_none own way.Inactive mid = refl

rids_none : (sent : List SimulcastLayer) (rows : List PayloadParams) (attrs : List MediaAttribute)
    → list_any needs_offer (filter_map (answered_rid sent rows) attrs) ≡ false
rids_none sent rows [] = refl
rids_none sent rows (media.Rid id direction pts restrictions ∷ attrs) =
    go (bytes_eq direction (codes "send") && (list_any (is_layer_named id.0) sent && is_rid_left rows pts)) (rids_none sent rows attrs)
  where
    go : (b : Bool) → list_any needs_offer (filter_map (answered_rid sent rows) attrs) ≡ false
        → list_any needs_offer (cons_option (cond b (Some (media.Rid id (codes "recv") (rid_types_left rows pts) restrictions)) None)
        (filter_map (answered_rid sent rows) attrs)) ≡ false
    go true rec = rec
    go false rec = rec
rids_none sent rows (attr ∷ attrs) = rids_none sent rows attrs

layers_none : (layers : List SimulcastLayer) → list_any needs_offer (layers_line layers) ≡ false
layers_none [] = refl
layers_none (layer ∷ layers) = refl

layer_lines_none : (own : OwnSide) (direction : Direction) (offered : MediaLine) (rows : List PayloadParams)
    → list_any needs_offer (layer_lines own direction offered rows) ≡ false
layer_lines_none own direction offered rows = go (own.receives_simulcast && (receives direction && are_layers_told own.extensions offered))
  where
    go : (b : Bool) → list_any needs_offer (cond b (answered_layers rows offered) []) ≡ false
    go true = unoffered_both (answered_rids rows offered) (layers_line (received_layers (answered_rids rows offered) offered))
        (rids_none (sent_layers offered) rows offered.attrs) (layers_none (received_layers (answered_rids rows offered) offered))
    go false = refl

-- ---- what is repeated stands there

repeated_offered : (known : List (List ℕ)) (offered : MediaLine) → All (WasOffered offered) (repeated_lines known offered)
repeated_offered known offered =
    All-filter (is_repeated known) (WasOffered offered) offered.attrs
    (All-weaker (Contains offered.attrs) (WasOffered offered) (λ line there needs. there) offered.attrs (All-contains_itself offered.attrs))

media_lines_offered : (own : OwnSide) (offered : MediaLine) (mid : List ℕ) (direction : Direction) (rows : List PayloadParams)
    → All (WasOffered offered) (media_lines own offered mid direction rows)
media_lines_offered own offered mid direction rows =
    let P : MediaAttribute → Type 0 = WasOffered offered in
    let a : List MediaAttribute = direction_attribute direction ∷ [] in
    let b : List MediaAttribute = map candidate_line own.candidates in
    let c : List MediaAttribute = repeated_lines own.extensions offered in
    let d : List MediaAttribute = msid_lines own direction mid in
    let e : List MediaAttribute = layer_lines own direction offered rows in
    All-append P (a ++ b ++ c ++ d) e
    (All-append P (a ++ b ++ c) d
    (All-append P (a ++ b) c
    (All-append P a b (offered_from_none offered a (direction_none direction))
    (offered_from_none offered b (candidates_none own.candidates)))
    (repeated_offered own.extensions offered))
    (offered_from_none offered d (msid_none own direction mid)))
    (offered_from_none offered e (layer_lines_none own direction offered rows))

pub accepted_media_offered : (own : OwnSide) (offered : MediaLine) (mid : List ℕ) (role : Setup) (direction : Direction)
    (rows : List PayloadParams)
    → SaysOnlyOffered offered (made
    (accepted_frame offered (accepted_first_lines own mid role ++ media_lines own offered mid direction rows)) rows)
accepted_media_offered own offered mid role direction rows =
    let P : MediaAttribute → Type 0 = WasOffered offered in
    let head : List MediaAttribute = accepted_first_lines own mid role in
    let lines : List MediaAttribute = media_lines own offered mid direction rows in
    All-append P (filter (λ attr. not (is_of_type attr)) (head ++ lines)) (flat_map row_attrs rows)
    (All-filter (λ attr. not (is_of_type attr)) P (head ++ lines)
    (All-append P head lines (offered_from_none offered head refl) (media_lines_offered own offered mid direction rows)))
    (offered_from_none offered (flat_map row_attrs rows) (rows_none rows))

pub accepted_channels_offered : (own : OwnSide) (offered : MediaLine) (mid : List ℕ) (role : Setup) (channels : DataChannels)
    → SaysOnlyOffered offered (accepted_frame offered (accepted_first_lines own mid role ++ accepted_channel_lines channels
    ++ map candidate_line own.candidates))
accepted_channels_offered own offered mid role channels =
    All-append (WasOffered offered) (accepted_first_lines own mid role ++ accepted_channel_lines channels)
    (map candidate_line own.candidates)
    (offered_from_none offered (accepted_first_lines own mid role ++ accepted_channel_lines channels) refl)
    (offered_from_none offered (map candidate_line own.candidates) (candidates_none own.candidates))
