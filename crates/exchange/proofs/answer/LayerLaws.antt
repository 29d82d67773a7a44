-- What holds of the lines of layers that answer an offer.
use Rattle.exchange.proofs.Common.{◌≡◌, ◌&&◌, ◌++◌, inl, inr, ℕ, Bool, true, false, List, [], ◌∷◌, Option, Some, None, All, IfSome}
use Rattle.exchange.proofs.Common.{if◌then◌else◌, filter, filter_map, refl, subst, sym, ap, ◌∙◌, and_parts, All-append, All-cons}
use Rattle.exchange.proofs.Common.{All-contains_itself, All-filter, All-nil, bytes_eq-Decides, Contains, cons_option, list_any, codes}
use Rattle.exchange.proofs.Common.{bytes_eq, PayloadParams, MediaAttribute, SimulcastLayer, MediaLine}
use Rattle.exchange.proofs.answer.RowsListLaws.{rows_All-filter_map}
use Rattle.exchange.specs.answer.Layers.{IsTurnedLayerLine, answered_layers, answered_rid, answered_rids, is_rid_answered, is_rid_left}
use Rattle.exchange.specs.answer.Layers.{is_layer_named}
use Rattle.exchange.specs.answer.Layers.{layers_line, received_layers, sent_layers, rid_types_left}
use Rattle.str0m_sdp.specs.declared.attribute.MediaAttribute.TheVariants as media

turned_rid : (rows : List PayloadParams) (offered : MediaLine) (line : MediaAttribute) → Contains offered.attrs line
    → IfSome (answered_rid (sent_layers offered) rows line) (IsTurnedLayerLine rows offered)
turned_rid rows offered (media.Rid id direction pts restrictions) there = go
    (bytes_eq direction (codes "send") && (list_any (is_layer_named id.0) (sent_layers offered) && is_rid_left rows pts)) refl where
      go : (b : Bool) → (bytes_eq direction (codes "send")
          && (list_any (is_layer_named id.0) (sent_layers offered) && is_rid_left rows pts)) ≡ b
          → IfSome (if b then Some (media.Rid id (codes "recv") (rid_types_left rows pts) restrictions) else None)
          (IsTurnedLayerLine rows offered)
      go true e =
          let sends = and_parts (bytes_eq direction (codes "send")) _ e in
          let rest = and_parts (list_any (is_layer_named id.0) (sent_layers offered)) _ sends.1 in
          let same : direction ≡ codes "send" = (bytes_eq-Decides direction (codes "send")).0 sends.0 in
          inl (record {
            id = id;
            pts = pts;
            restrictions = restrictions;
            offered_so = subst (λ (d : List ℕ). Contains offered.attrs (media.Rid id d pts restrictions)) same there;
            named = rest.0;
            left = rest.1;
            said = refl;
          })
      go false e = tt
turned_rid rows offered _ there = tt

turned_layer_line : (rows : List PayloadParams) (offered : MediaLine) (layers : List SimulcastLayer)
    → All (Contains (sent_layers offered)) layers
    → All (IsTurnedLayerLine rows offered) (layers_line layers)
turned_layer_line rows offered [] sent = All-nil (IsTurnedLayerLine rows offered)
turned_layer_line rows offered (layer ∷ more) sent =
    All-cons (IsTurnedLayerLine rows offered) _ []
    (inr (record { received = layer ∷ more; some = λ e. cc; offered_so = sent; said = refl }))
    (All-nil (IsTurnedLayerLine rows offered))

pub all_layers_turned : (rows : List PayloadParams) (offered : MediaLine) (lines : List MediaAttribute)
    → lines ≡ answered_layers rows offered
    → All (IsTurnedLayerLine rows offered) lines
all_layers_turned rows offered lines is = subst (All (IsTurnedLayerLine rows offered)) (sym is)
    (All-append (IsTurnedLayerLine rows offered) (answered_rids rows offered)
    (layers_line (received_layers (answered_rids rows offered) offered))
    (rows_All-filter_map (Contains offered.attrs) (IsTurnedLayerLine rows offered) (answered_rid (sent_layers offered) rows)
    (turned_rid rows offered)
    offered.attrs (All-contains_itself offered.attrs))
    (turned_layer_line rows offered (received_layers (answered_rids rows offered) offered)
    (All-filter (is_rid_answered (answered_rids rows offered)) (Contains (sent_layers offered)) (sent_layers offered)
    (All-contains_itself (sent_layers offered)))))

-- ---- where nothing is sent

no_rid : (rows : List PayloadParams) (line : MediaAttribute) → answered_rid [] rows line ≡ None
no_rid rows (media.Rid id direction pts restrictions) = go (bytes_eq direction (codes "send")) where
  go : (b : Bool) → (if b && false then Some (media.Rid id (codes "recv") (rid_types_left rows pts) restrictions) else None) ≡ None
  go true = refl
  go false = refl
no_rid rows _ = refl

no_rids : (rows : List PayloadParams) (lines : List MediaAttribute) → filter_map (answered_rid [] rows) lines ≡ []
no_rids rows [] = refl
no_rids rows (line ∷ lines) = ap (λ (o : Option MediaAttribute). cons_option o (filter_map (answered_rid [] rows) lines)) (no_rid rows line)
    ∙ no_rids rows lines

pub no_layers_said : (rows : List PayloadParams) (offered : MediaLine) (lines : List MediaAttribute) → lines ≡ answered_layers rows offered
    → sent_layers offered ≡ [] → lines ≡ []
no_layers_said rows offered lines is none =
    is
    ∙ ap (λ (sent : List SimulcastLayer). filter_map (answered_rid sent rows) offered.attrs
    ++ layers_line (filter (is_rid_answered (filter_map (answered_rid sent rows) offered.attrs)) sent)) none
    ∙ ap (λ (rids : List MediaAttribute). rids ++ []) (no_rids rows offered.attrs)
