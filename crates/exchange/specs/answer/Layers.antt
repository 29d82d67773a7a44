-- The layers of a stream that is received in several (RFC 8853, section 5.3.2; RFC 8851, section 6.3).
use Rattle.exchange.specs.Prelude.{MediaAttribute, MediaLine, PayloadParams, SimulcastLayer, last, rid_name_of, simulcast_of}
use Rattle.std.specs.List.{list_any}
use Rattle.std.specs.Prelude.{◌==◌, ◌&&◌, ◌||◌, ℕ, Bool, true, false, List, [], ◌∷◌, ◌++◌, Option, Some, None, codes, bytes_eq, filter, filter_map, length, if◌then◌else◌, ◌≡◌, ◌≢◌, ◌⊎◌, All, Contains}
use Rattle.str0m_sdp.specs.declared.attribute.MediaAttribute.TheVariants.{Rid, Simulcast}
use Rattle.str0m_sdp.specs.declared.attribute.simulcast.RestrictionId.{RestrictionId}
use Rattle.str0m_sdp.specs.declared.attribute.simulcast.Simulcast as layers

-- the layers that the offer sends
abbrev pub layers_sent_by : Option layers.Simulcast → List SimulcastLayer
layers_sent_by None = []
layers_sent_by (Some simulcast) = simulcast.send.0

abbrev pub sent_layers : MediaLine → List SimulcastLayer
sent_layers offered = layers_sent_by (last (filter_map simulcast_of offered.attrs))

-- a layer has this name
abbrev pub is_layer_named : List ℕ → SimulcastLayer → Bool
is_layer_named name layer = bytes_eq layer.restriction_id.0 name

-- of the types of a rid line those that stand among the rows
abbrev pub is_row_type : List PayloadParams → ℕ → Bool
is_row_type rows pt = list_any (λ row. row.pt == pt) rows

abbrev pub rid_types_left : List PayloadParams → List ℕ → List ℕ
rid_types_left rows pts = filter (is_row_type rows) pts

-- a rid line that lists no types allows any; one whose types are all gone is removed
abbrev pub is_rid_left : List PayloadParams → List ℕ → Bool
is_rid_left rows pts = length pts == 0 || list_any (is_row_type rows) pts

-- the rid line of a layer that is sent, turned round: received here, under the types that are left
abbrev pub answered_rid : List SimulcastLayer → List PayloadParams → MediaAttribute → Option MediaAttribute
answered_rid sent rows (Rid id direction pts restrictions) =
    if bytes_eq direction (codes "send") && (list_any (is_layer_named id.0) sent && is_rid_left rows pts)
    then Some (Rid id (codes "recv") (rid_types_left rows pts) restrictions) else None
answered_rid sent rows _ = None

abbrev pub answered_rids : List PayloadParams → MediaLine → List MediaAttribute
answered_rids rows offered = filter_map (answered_rid (sent_layers offered) rows) offered.attrs

-- the layers that have a rid line still
abbrev pub is_rid_named : List ℕ → Option (List ℕ) → Bool
is_rid_named name None = false
is_rid_named name (Some other) = bytes_eq other name

abbrev pub is_rid_answered : List MediaAttribute → SimulcastLayer → Bool
is_rid_answered rids layer = list_any (λ rid. is_rid_named layer.restriction_id.0 (rid_name_of rid)) rids

abbrev pub received_layers : List MediaAttribute → MediaLine → List SimulcastLayer
received_layers rids offered = filter (is_rid_answered rids) (sent_layers offered)

-- the line of the layers; none where there is no layer
abbrev pub layers_line : List SimulcastLayer → List MediaAttribute
layers_line [] = []
layers_line (layer ∷ more) = Simulcast (record { send = record { 0 = [] }; recv = record { 0 = layer ∷ more }; is_munged = false }) ∷ []

-- the rid lines, then the line of the layers
abbrev pub answered_layers : List PayloadParams → MediaLine → List MediaAttribute
answered_layers rows offered = let rids = answered_rids rows offered in rids ++ layers_line (received_layers rids offered)

-- ---- what holds of them

-- a rid line that the offer has of a layer that it sends, received under those of its types that stand among the rows: some of
-- them, where it lists any
pub record IsTurnedRid (rows : List PayloadParams) (offered : MediaLine) (line : MediaAttribute) : Type 0 where
  pub id : RestrictionId
  pub pts : List ℕ
  pub restrictions : List (List ℕ × List ℕ)
  pub offered_so : Contains offered.attrs (Rid id (codes "send") pts restrictions)
  pub named : list_any (is_layer_named id.0) (sent_layers offered) ≡ true
  pub left : is_rid_left rows pts ≡ true
  pub said : line ≡ Rid id (codes "recv") (rid_types_left rows pts) restrictions

-- a line of layers that the offer sends, received
pub record IsTurnedLayers (offered : MediaLine) (line : MediaAttribute) : Type 0 where
  pub received : List SimulcastLayer
  pub some : received ≢ []
  pub offered_so : All (Contains (sent_layers offered)) received
  pub said : line ≡ Simulcast (record { send = record { 0 = [] }; recv = record { 0 = received }; is_munged = false })

abbrev pub IsTurnedLayerLine : List PayloadParams → MediaLine → MediaAttribute → Type 0
IsTurnedLayerLine rows offered line = IsTurnedRid rows offered line ⊎ IsTurnedLayers offered line
