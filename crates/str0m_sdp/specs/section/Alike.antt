-- Attributes that say the same once they are printed and read.
use Rattle.std.specs.Prelude.{◌≡◌, ◌⊎◌, false, List, map, filter}
use Rattle.str0m_formats.specs.declared.format.format_param.FormatParam.TheVariants.{TelephoneEvents, BareRange, BarePtList, Red}
use Rattle.str0m_sdp.specs.Prelude.{FormatParam}
use Rattle.str0m_sdp.specs.attribute.Fmtp.{is_fmtp_shown}
use Rattle.str0m_sdp.specs.declared.attribute.MediaAttribute.{MediaAttribute}
use Rattle.str0m_sdp.specs.declared.attribute.MediaAttribute.TheVariants.{Fmtp, Simulcast as SimulcastLine}
use Rattle.str0m_sdp.specs.declared.attribute.simulcast.RestrictionId.{RestrictionId}
use Rattle.str0m_sdp.specs.declared.attribute.simulcast.Simulcast.{Simulcast}
use Rattle.str0m_sdp.specs.declared.attribute.simulcast.SimulcastLayer.{SimulcastLayer}

-- a range of events, and a list of types, however it came about
abbrev pub alike_as_read : FormatParam → FormatParam
alike_as_read (TelephoneEvents n) = BareRange n
alike_as_read (Red pt) = BarePtList pt
alike_as_read param = param

-- the values that print something
abbrev pub alike_shown : List FormatParam → List FormatParam
alike_shown values = map alike_as_read (filter is_fmtp_shown values)

abbrev pub layer_ids : List SimulcastLayer → List RestrictionId
layer_ids layers = map (λ layer. layer.restriction_id) layers

-- layers of the same names on both sides, on lines that print
pub record AlikeLayers (a b : Simulcast) : Type 0 where
  pub whole : (a.is_munged ≡ false) × (b.is_munged ≡ false)
  pub send : layer_ids a.send.0 ≡ layer_ids b.send.0
  pub recv : layer_ids a.recv.0 ≡ layer_ids b.recv.0

-- equal, or fmtp lines of one type whose shown values are the same, or layers of the same names
abbrev pub Alike : MediaAttribute → MediaAttribute → Type 0
Alike (Fmtp pt values) (Fmtp n others) = (pt ≡ n) × (alike_shown values ≡ alike_shown others)
Alike (SimulcastLine a) (SimulcastLine b) = (a ≡ b) ⊎ AlikeLayers a b
Alike a b = a ≡ b
