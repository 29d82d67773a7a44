-- Codecs with their clock rates.
use Rattle.std.specs.Prelude.{◌≡◌, ◌==◌, ℕ, Bool, false, Option, Some, None, option_map, unwrap_or, find}
use Rattle.str0m_formats.specs.Prelude.{◌>>=◌}
use Rattle.str0m_formats.specs.codec.Codec.{static_entry, rtp_clock}
use Rattle.str0m_formats.specs.declared.codec.Codec.{Codec}
use Rattle.str0m_formats.specs.declared.codec.TheConstants.{NAMED}
use Rattle.str0m_formats.specs.declared.codec.codec_spec.CodecSpec.{CodecSpec}
use Rattle.str0m_formats.specs.format.FormatParams.{empty}

-- the payload type stands for the spec: its codec at that rate, and nothing else said
abbrev pub IsStaticSpec : ℕ → CodecSpec → Type 0
IsStaticSpec pt spec = (static_entry spec.codec ≡ Some (pt, spec.clock_rate)) × (spec.channels ≡ None) × (spec.format ≡ empty)

-- a codec of which nothing is said but its rate
abbrev pub spec_at : Codec → ℕ → CodecSpec
spec_at codec rate = record { codec = codec; clock_rate = rate; channels = None; format = empty }

abbrev pub is_spec_at : ℕ → Option (ℕ × ℕ) → Bool
is_spec_at pt None = false
is_spec_at pt (Some static) = static.0 == pt

-- the codec that a payload type stands for without a mapping, and its spec
abbrev pub static_codec : ℕ → Option Codec
static_codec pt = find (λ codec. is_spec_at pt (static_entry codec)) NAMED

unfoldable pub static_spec : ℕ → Option CodecSpec
static_spec pt = static_codec pt >>= λ codec. option_map (λ static. spec_at codec static.1) (static_entry codec)

-- the clock rate in RTP
abbrev pub codec_rtp_rate : Codec → ℕ → ℕ
codec_rtp_rate codec rate = unwrap_or (rtp_clock codec) rate
