-- Reading of a simulcast line as functions.
use Rattle.std.specs.Prelude.{ℕ, true, false, List, [], Option, Some, None, codes, is_some}
use Rattle.str0m_signal.specs.Prelude.{RestrictionId, Simulcast, SimulcastLayer, cut, strip, when, ◌<|>◌, ◌>>=◌}
use Rattle.str0m_signal.specs.declared.form.simulcast.LayerSides.{LayerSides as TheSides}
use Rattle.str0m_signal.specs.form.FormReading.{behind, parted_read}
use Rattle.str0m_signal.specs.form.RidStreamName.{is_stream_name}

-- a name, where the text was cut after `~` if it begins so
abbrev pub simulcast_alternative_after : List ℕ → Option (List ℕ) → Option RestrictionId
simulcast_alternative_after text None = when (is_stream_name text) (record { 0 = text; 1 = true })
simulcast_alternative_after text (Some name) = when (is_stream_name name) (record { 0 = name; 1 = false })

abbrev pub alternative_read : List ℕ → Option RestrictionId
alternative_read text = simulcast_alternative_after text (strip (codes "~") text)

-- the first alternative, where the others are alternatives too
abbrev pub first_layer_name_after : List ℕ → Option (List ℕ × List ℕ) → Option RestrictionId
first_layer_name_after text None = alternative_read text
first_layer_name_after text (Some parts) = do
  id ← alternative_read parts.0
  when (is_some (parted_read 44 alternative_read parts.1)) id

abbrev pub first_name_read : List ℕ → Option RestrictionId
first_name_read text = first_layer_name_after text (cut 44 text)

abbrev pub layer_read : List ℕ → Option SimulcastLayer
layer_read text = first_name_read text >>= λ id. Some (record { restriction_id = id; attributes = None })

abbrev pub side_read : List ℕ → Option (List SimulcastLayer)
side_read text = parted_read 59 layer_read text

-- a side, and the other one where a space follows
abbrev pub simulcast_sides_after : List ℕ → List ℕ → Option (List ℕ × List ℕ) → Option (List SimulcastLayer × List SimulcastLayer)
simulcast_sides_after other text None = side_read text >>= λ first. Some (first, [])
simulcast_sides_after other text (Some parts) = do
  first ← side_read parts.0
  second ← behind other side_read parts.1
  Some (first, second)

abbrev pub sides_read : List ℕ → List ℕ → Option (List SimulcastLayer × List SimulcastLayer)
sides_read other text = simulcast_sides_after other text (cut 32 text)

abbrev pub layers_of : List SimulcastLayer → List SimulcastLayer → Simulcast
layers_of send recv = record { send = record { 0 = send }; recv = record { 0 = recv }; is_munged = false }

abbrev pub simulcast_fields_read : List ℕ → Option Simulcast
simulcast_fields_read text =
    (behind (codes "send ") (sides_read (codes "recv ")) text >>= λ sides. Some (layers_of sides.0 sides.1))
    <|> (behind (codes "recv ") (sides_read (codes "send ")) text >>= λ sides. Some (layers_of sides.1 sides.0))

-- ---- the sides of a simulcast line, as lists

abbrev pub simulcast_sides_of : TheSides → List SimulcastLayer × List SimulcastLayer
simulcast_sides_of sides = (sides.first, sides.second)
