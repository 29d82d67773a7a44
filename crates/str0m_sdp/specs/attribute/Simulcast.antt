-- Layers, as they print (RFC 8853, section 5.1).
use Rattle.std.specs.List.{join_by}
use Rattle.std.specs.Prelude.{ℕ, Bool, true, false, List, [], ◌∷◌, ◌++◌, codes}
use Rattle.str0m_sdp.specs.declared.attribute.simulcast.RestrictionId.{RestrictionId}
use Rattle.str0m_sdp.specs.declared.attribute.simulcast.Simulcast.{Simulcast}
use Rattle.str0m_sdp.specs.declared.attribute.simulcast.SimulcastLayer.{SimulcastLayer}
use Rattle.str0m_sdp.specs.form.Printed.{attribute_line}

-- a name, after `~` where it isn't active
abbrev pub layer_name_text : List ℕ → Bool → List ℕ
layer_name_text name true = name
layer_name_text name false = codes "~" ++ name

abbrev pub simulcast_id_text : RestrictionId → List ℕ
simulcast_id_text id = layer_name_text id.0 id.1

abbrev pub layer_text : SimulcastLayer → List ℕ
layer_text layer = simulcast_id_text layer.restriction_id

abbrev pub layers_text : List SimulcastLayer → List ℕ
layers_text layers = join_by layer_text (codes ";") layers

-- the sides that have layers, send before recv
abbrev pub simulcast_sides_text : List SimulcastLayer → List SimulcastLayer → List ℕ
simulcast_sides_text [] [] = []
simulcast_sides_text (s ∷ send) [] = attribute_line (codes "simulcast:send " ++ layers_text (s ∷ send))
simulcast_sides_text [] (r ∷ recv) = attribute_line (codes "simulcast:recv " ++ layers_text (r ∷ recv))
simulcast_sides_text (s ∷ send) (r ∷ recv) = attribute_line (codes "simulcast:send " ++ (layers_text (s ∷ send) ++ (codes " recv " ++ layers_text (r ∷ recv))))

-- no line for what is munged
abbrev pub simulcast_unless_munged : Bool → List ℕ → List ℕ
simulcast_unless_munged true line = []
simulcast_unless_munged false line = line

abbrev pub simulcast_text : Simulcast → List ℕ
simulcast_text s = simulcast_unless_munged s.is_munged (simulcast_sides_text s.send.0 s.recv.0)

-- what the other side calls it: what is sent here is received there
abbrev pub inverted_simulcast : Simulcast → Simulcast
inverted_simulcast s = record { send = s.recv; recv = s.send; is_munged = s.is_munged }
