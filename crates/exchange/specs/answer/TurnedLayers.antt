-- Layers of an answer beside those of its offer: what the one sends, the other receives (RFC 8851, section 6.3; RFC 8853,
-- section 5.3.2).
use Rattle.exchange.specs.Prelude.{MediaAttribute, MediaLine, SimulcastLayer, last, simulcast_of}
use Rattle.exchange.specs.answer.Layers.{is_layer_named, sent_layers}
use Rattle.std.specs.List.{list_any}
use Rattle.std.specs.Prelude.{◌≡◌, ◌&&◌, ◌||◌, ℕ, Bool, true, false, List, [], Option, Some, None, All, codes, bytes_eq, filter_map}
use Rattle.str0m_sdp.specs.declared.attribute.MediaAttribute.TheVariants.{Rid}
use Rattle.str0m_sdp.specs.declared.attribute.simulcast.Simulcast as layers

-- the words of two rid lines, of which the one sends what the other receives
abbrev pub are_rids_opposite : List ℕ → List ℕ → Bool
are_rids_opposite way other =
    (bytes_eq way (codes "send") && bytes_eq other (codes "recv")) || (bytes_eq way (codes "recv") && bytes_eq other (codes "send"))

-- a rid line of this name that goes the other way
abbrev pub is_rid_opposite : List ℕ → List ℕ → MediaAttribute → Bool
is_rid_opposite name way (Rid id other pts restrictions) = bytes_eq id.0 name && are_rids_opposite way other
is_rid_opposite name way _ = false

-- a rid line of an answer turns one of the offer round
abbrev pub is_turned : List MediaAttribute → MediaAttribute → Bool
is_turned offered (Rid id way pts restrictions) = list_any (is_rid_opposite id.0 way) offered
is_turned offered _ = true

-- the layers that a section receives
abbrev pub layers_received_by : Option layers.Simulcast → List SimulcastLayer
layers_received_by None = []
layers_received_by (Some simulcast) = simulcast.recv.0

abbrev pub layers_received : MediaLine → List SimulcastLayer
layers_received m = layers_received_by (last (filter_map simulcast_of m.attrs))

-- each layer has the name of one of the others
abbrev pub AreLayersAmong : List SimulcastLayer → List SimulcastLayer → Type 0
AreLayersAmong others layers = All (λ layer. list_any (is_layer_named layer.restriction_id.0) others ≡ true) layers

pub record TurnsLayers (offered answered : MediaLine) : Type 0 where
  pub rids : All (λ line. is_turned offered.attrs line ≡ true) answered.attrs
  pub sent : AreLayersAmong (layers_received offered) (sent_layers answered)
  pub received : AreLayersAmong (sent_layers offered) (layers_received answered)
