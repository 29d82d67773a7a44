-- The default rows of each codec, and the lists that they make.
use Rattle.std.specs.Prelude.{◌≡◌, ℕ, Bool, true, false, not, Option, Some, None, List, [], ◌∷◌, ◌++◌, map, filter, All, Result, OnOk, OnErr, IsOk, if◌then◌else◌, Contains, flat_map}
use Rattle.std.specs.declared.alloc.AllocError.{AllocError}
use Rattle.str0m_formats.specs.codec.Codec.{static_entry}
use Rattle.str0m_formats.specs.declared.codec.Codec.{Codec}
use Rattle.str0m_formats.specs.declared.codec.Codec.TheVariants.{Opus, PCMU, PCMA, G722, CN, AmrWb, H264, H265, H266, Vp8, Vp9, Av1, Tele, Rtx, Red, Null, Unknown}
use Rattle.str0m_formats.specs.declared.format.format_params.FormatParams.{FormatParams}
use Rattle.str0m_formats.specs.declared.row.codec_config.CodecConfig.{CodecConfig}
use Rattle.str0m_formats.specs.declared.row.payload_params.PayloadParams.{PayloadParams}
use Rattle.str0m_formats.specs.format.FormatParams.{empty}
use Rattle.str0m_formats.specs.round.Claimed.{AllTypesDistinct}
use Rattle.str0m_formats.specs.round.MatchScore.{same_codec}
use Rattle.str0m_formats.specs.row.CodecConfig.{video_spec, h264_row, h265_row, h266_row}
use Rattle.str0m_formats.specs.row.PayloadParams.{new_row, types}
use Rattle.str0m_values.specs.declared.h265.H265Level.TheVariants as h265_level
use Rattle.str0m_values.specs.declared.h265.H265Profile.TheVariants as h265_profile
use Rattle.str0m_values.specs.declared.h265.H265Tier.TheVariants as h265_tier
use Rattle.str0m_values.specs.declared.h266.H266Level.TheVariants as h266_level
use Rattle.str0m_values.specs.declared.h266.H266Profile.TheVariants as h266_profile
use Rattle.str0m_values.specs.declared.h266.H266Tier.TheVariants as h266_tier

-- an audio row at a rate in Hz, without RTX
abbrev pub audio_row : Codec → ℕ → ℕ → Option ℕ → FormatParams → PayloadParams
audio_row codec pt rate channels format = new_row pt None (record { codec = codec; clock_rate = rate; channels = channels; format = format })

-- a video row with its RTX
abbrev pub video_row : Codec → ℕ → ℕ → FormatParams → PayloadParams
video_row codec pt resend format = new_row pt (Some resend) (video_spec codec format)

-- a RED, where it is asked for
abbrev pub red_if : Bool → ℕ → Option ℕ
red_if use_red pt = if use_red then Some pt else None

-- the row of a codec under its static type, at the rate that goes with it
abbrev pub static_rows_at : Codec → Option ℕ → Option (ℕ × ℕ) → List PayloadParams
static_rows_at codec red None = []
static_rows_at codec red (Some (pt, rate)) = record (audio_row codec pt rate None empty) { red = red } ∷ []

abbrev pub static_rows : Codec → Option ℕ → List PayloadParams
static_rows codec red = static_rows_at codec red (static_entry codec)

-- the default rows of each codec: payload type and RTX, rate in Hz, channels, format; and the RED that may be asked for
-- (profile-level-ids: RFC 6184, section 8.1)
abbrev pub default_rows : Codec → Bool → List PayloadParams
default_rows Opus use_red = record (audio_row Opus 111 48000 (Some 2) (record empty { min_p_time = Some 10; use_inband_fec = Some true })) { red = red_if use_red 63 } ∷ []
default_rows PCMU use_red = static_rows PCMU (red_if use_red 61)
default_rows PCMA use_red = static_rows PCMA (red_if use_red 60)
default_rows G722 use_red = static_rows G722 (red_if use_red 62)
default_rows CN _ = static_rows CN None
default_rows AmrWb _ = audio_row AmrWb 122 16000 (Some 1) (record empty { octet_align = Some true }) ∷ []
default_rows Vp8 _ = video_row Vp8 96 97 empty ∷ []
default_rows H264 _ =
    h264_row 127 (Some 121) true 0x42001F ∷ h264_row 125 (Some 107) false 0x42001F
    ∷ h264_row 108 (Some 109) true 0x42E01F ∷ h264_row 124 (Some 120) false 0x42E01F
    ∷ h264_row 123 (Some 119) true 0x4D001F ∷ h264_row 35 (Some 36) false 0x4D001F
    ∷ h264_row 114 (Some 115) true 0x64001F ∷ []
default_rows H265 _ = h265_row 102 (Some 103) (record { profile = h265_profile.Main; tier = h265_tier.Main; level = h265_level.L6 }) ∷ []
default_rows H266 _ = h266_row 104 (Some 105) (record { profile = h266_profile.Main10; tier = h266_tier.Main; level = h266_level.L6 }) ∷ []
default_rows Vp9 _ = video_row Vp9 98 99 (record empty { profile_id = Some 0 }) ∷ video_row Vp9 100 101 (record empty { profile_id = Some 2 }) ∷ []
default_rows Av1 _ = video_row Av1 45 46 empty ∷ []
default_rows Tele _ = []
default_rows Rtx _ = []
default_rows Red _ = []
default_rows Null _ = []
default_rows Unknown _ = []

-- the rows of all other codecs
abbrev pub rows_except : Codec → List PayloadParams → List PayloadParams
rows_except codec rows = filter (λ row. not (same_codec row.spec.codec codec)) rows

-- the rows of the codec are taken out, and its default rows come last where it is enabled
abbrev pub enabled_rows : Codec → Bool → Bool → List PayloadParams → List PayloadParams
enabled_rows codec enabled use_red rows = rows_except codec rows ++ (if enabled then default_rows codec use_red else [])

-- a row of the table, with or without its RED
abbrev pub IsDefault : PayloadParams → Type 0
IsDefault row = (codec : Codec) × (use_red : Bool) × Contains (default_rows codec use_red) row

-- rows of the table, each with or without its RED, none of them twice: a row of the table is known by its payload type
pub record AreDefault (rows : List PayloadParams) : Type 0 where
  pub each : All IsDefault rows
  pub once : AllTypesDistinct (map (λ row. row.pt) rows)

-- the codecs of a configuration with defaults, none with RED
abbrev pub default_codecs : List Codec
default_codecs = Opus ∷ Vp8 ∷ H264 ∷ H265 ∷ Vp9 ∷ Av1 ∷ []

abbrev pub usual_rows : List PayloadParams
usual_rows = flat_map (λ codec. default_rows codec false) default_codecs

-- what a call does that enables or disables a codec: refused memory changes nothing, and disabling needs none
pub record Enables (codec : Codec) (enabled use_red : Bool) (old new : CodecConfig) (result : Result (Unit {0}) AllocError) : Type 0 where
  pub ok : OnOk result (new.params.items ≡ enabled_rows codec enabled use_red old.params.items)
  pub err : OnErr result (new ≡ old)
  pub without : enabled ≡ false → IsOk result
  pub distances : new.red_distances ≡ old.red_distances
  pub default : AreDefault old.params.items → AreDefault new.params.items
  pub distinct : AreDefault old.params.items → AllTypesDistinct (types new.params.items)
