-- The form of a simulcast line (RFC 8853, section 5.1).
use Rattle.std.specs.Prelude.{◌≡◌, ◌⊎◌, false, ℕ, List, [], ◌∷◌, None, codes}
use Rattle.str0m_sdp.specs.attribute.Simulcast.{simulcast_id_text}
use Rattle.str0m_signal.specs.Prelude.{PartedAddress, RestrictionId, Simulcast, SimulcastLayer}
use Rattle.str0m_signal.specs.form.Forms.{Behind, TwoFormParts}
use Rattle.str0m_signal.specs.form.RidStreamName.{IsStreamName}

-- a name, after `~` where it isn't active
abbrev pub IsSimulcastAlternative : List ℕ → RestrictionId → Type 0
IsSimulcastAlternative text id = (text ≡ simulcast_id_text id) × IsStreamName id.0

-- alternatives with `,` between each two; the first is the layer
abbrev pub IsLayer : List ℕ → SimulcastLayer → Type 0
IsLayer text layer = (others : List RestrictionId) × PartedAddress 44 IsSimulcastAlternative text (layer.restriction_id ∷ others) × (layer.attributes ≡ None)

-- layers with `;` between each two
abbrev pub IsSimulcastSide : List ℕ → List SimulcastLayer → Type 0
IsSimulcastSide = PartedAddress 59 IsLayer

-- two sides, each after its word
abbrev pub AreBothSimulcastSides : List ℕ → List ℕ → List ℕ → List SimulcastLayer × List SimulcastLayer → Type 0
AreBothSimulcastSides first second = Behind first (TwoFormParts 32 IsSimulcastSide (Behind second IsSimulcastSide))

-- one side, or both in any order
abbrev pub AreSimulcastSides : List ℕ → List SimulcastLayer → List SimulcastLayer → Type 0
AreSimulcastSides text [] [] = ⊥
AreSimulcastSides text (s ∷ send) [] = Behind (codes "send ") IsSimulcastSide text (s ∷ send)
AreSimulcastSides text [] (r ∷ recv) = Behind (codes "recv ") IsSimulcastSide text (r ∷ recv)
AreSimulcastSides text (s ∷ send) (r ∷ recv) = AreBothSimulcastSides (codes "send ") (codes "recv ") text (s ∷ send, r ∷ recv) ⊎ AreBothSimulcastSides (codes "recv ") (codes "send ") text (r ∷ recv, s ∷ send)

abbrev pub IsSimulcast : List ℕ → Simulcast → Type 0
IsSimulcast text simulcast = AreSimulcastSides text simulcast.send.0 simulcast.recv.0 × (simulcast.is_munged ≡ false)
