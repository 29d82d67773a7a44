-- The rows that a configuration takes in.
use Rattle.std.specs.Borrow.{Lends, MutBor, Fml, RattleType}
use Rattle.std.specs.Prelude.{◌≡◌, ℕ, Bool, true, Option, Some, None, if◌then◌else◌}
use Rattle.std.specs.contracts.alloc.Global as global
use Rattle.std.specs.contracts.impls.GlobalAllocator.TheImpl.{ghosts}
use Rattle.std.specs.contracts.vec.Vec as vec
use Rattle.str0m_formats.specs.Prelude.{H265ProfileTierLevel, H266ProfileTierLevel, HasNumbers, ProfileTierLevel}
use Rattle.str0m_formats.specs.contracts.row.codec_config.CodecConfig.{the_row}
use Rattle.str0m_formats.specs.contracts.row.payload_params.PayloadParams as row
use Rattle.str0m_formats.specs.declared.codec.Codec.{Codec}
use Rattle.str0m_formats.specs.declared.codec.Codec.TheVariants.{H264, H265, H266}
use Rattle.str0m_formats.specs.declared.codec.codec_spec.CodecSpec.{CodecSpec}
use Rattle.str0m_formats.specs.declared.format.format_params.FormatParams.{FormatParams}
use Rattle.str0m_formats.specs.declared.row.codec_config.CodecConfig.{CodecConfig}
use Rattle.str0m_formats.specs.declared.row.payload_params.PayloadParams.{PayloadParams}
use Rattle.str0m_formats.specs.format.FormatParams.{empty}
use Rattle.str0m_formats.specs.row.PayloadParams.{new_row}
use Rattle.str0m_values.specs.H265 as h265
use Rattle.str0m_values.specs.H266 as h266

-- a video codec: at 90000 Hz, and without channels
abbrev pub video_spec : Codec → FormatParams → CodecSpec
video_spec codec format = record { codec = codec; clock_rate = 90000; channels = None; format = format }

-- a row of H264, whose levels may differ in the two directions (RFC 6184, section 8.1)
abbrev pub h264_row : ℕ → Option ℕ → Bool → ℕ → PayloadParams
h264_row pt resend packetization_mode profile_level_id = new_row pt resend (video_spec H264 (record empty {
  level_asymmetry_allowed = Some true;
  packetization_mode = Some (if packetization_mode then 1 else 0);
  profile_level_id = Some profile_level_id;
}))

-- a row of H265 (RFC 7798, section 7.1)
abbrev pub h265_row : ℕ → Option ℕ → H265ProfileTierLevel → PayloadParams
h265_row pt resend triple = new_row pt resend (video_spec H265 (record empty { h265_profile_tier_level = Some triple }))

-- a row of H266 (RFC 9328, section 7.2)
abbrev pub h266_row : ℕ → Option ℕ → H266ProfileTierLevel → PayloadParams
h266_row pt resend triple = new_row pt resend (video_spec H266 (record empty { h266_profile_tier_level = Some triple }))

-- the value that some numbers stand for, or where they stand for none, the one that stands in
pub record IsRowValueOrFallback {A : Type 0} (P otherwise : A → Type 0) (value : A) : Type 0 where
  pub that : (x : A) → P x → value ≡ x
  pub stands_in : ((x : A) → ¬ (P x)) → otherwise value

-- the triple of three numbers; outside the table that of the defaults, as of a text which says nothing
abbrev pub IsTripleOr : {P T L : Type 0} → (P → ℕ) → (T → ℕ) → (L → ℕ) → ℕ × ℕ × ℕ → ℕ → ℕ → ℕ → ProfileTierLevel P T L → Type 0
IsTripleOr profile_id tier_flag level_id defaults profile tier level =
    IsRowValueOrFallback (HasNumbers profile_id tier_flag level_id profile tier level) (HasNumbers profile_id tier_flag level_id defaults.0 defaults.1 defaults.2)

abbrev pub IsH265Triple : ℕ → ℕ → ℕ → H265ProfileTierLevel → Type 0
IsH265Triple = IsTripleOr h265.profile_id h265.tier_flag h265.level_id h265.h265_defaults

abbrev pub IsH266Triple : ℕ → ℕ → ℕ → H266ProfileTierLevel → Type 0
IsH266Triple = IsTripleOr h266.profile_id h266.tier_flag h266.level_id h266.h266_defaults

-- ---- what a configuration is after its rows were lent

-- a list of rows, as what is lent
abbrev pub rows_row : RattleType
rows_row = vec.the_row row.the_row global.the_row ghosts

-- the configuration ends with the rows that are left there, and its distances as they were
abbrev pub LendsRows : MutBor CodecConfig → MutBor rows_row.Denot → Fml
LendsRows config rows = Lends the_row rows_row config rows (λ left. record config.now { params = left })
