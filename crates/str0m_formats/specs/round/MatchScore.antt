-- How well two specs fit, by one rule a codec: 100 in full, less for what differs, and None where they don't fit.
use Rattle.std.specs.Bool.{beq}
use Rattle.std.specs.Int.{abs_diff}
use Rattle.std.specs.Option.{option_eq}
use Rattle.std.specs.Prelude.{◌≡◌, ◌≢◌, ◌-◌, ◌%◌, ◌^◌, ◌==◌, ◌&&◌, not, ℕ, Bool, false, if◌then◌else◌, Option, Some, None, nat_eq, unwrap_or, option_map}
use Rattle.str0m_formats.specs.Prelude.{H264Profile, H264ProfileLevel, H265ProfileTierLevel, H266ProfileTierLevel, ProfileTierLevel, when}
use Rattle.str0m_formats.specs.codec.Codec.{Rule, codec_rule, by_flags, by_level, by_h265, by_h266, by_modes, by_profile, by_av1, by_events, by_equality}
use Rattle.str0m_formats.specs.contracts.codec.Codec as codec
use Rattle.str0m_formats.specs.contracts.codec.codec_spec.CodecSpecPartialEq.TheImpl as spec
use Rattle.str0m_formats.specs.declared.codec.Codec.{Codec}
use Rattle.str0m_formats.specs.declared.codec.Codec.TheVariants.{AmrWb, Tele, Unknown}
use Rattle.str0m_formats.specs.declared.codec.codec_spec.CodecSpec.{CodecSpec}
use Rattle.str0m_formats.specs.declared.format.format_params.FormatParams.{FormatParams}
use Rattle.str0m_formats.specs.declared.round.match_score.ProfileNumbers.{ProfileNumbers}
use Rattle.str0m_values.specs.H264 as h264
use Rattle.str0m_values.specs.H265 as h265
use Rattle.str0m_values.specs.H266 as h266
use Rattle.str0m_values.specs.contracts.h264.H264Profile as h264_profile
use denote.Enum.Bare.{sameb}

-- ---- tests: `==` of each type, true where both sides are equal and only there

abbrev pub same_spec : CodecSpec → CodecSpec → Bool
same_spec a b = spec.eq-value.it a b

abbrev pub same_codec : Codec → Codec → Bool
same_codec a b = sameb codec.the_type a b

abbrev pub same_profile : H264Profile → H264Profile → Bool
same_profile a b = sameb h264_profile.the_type a b

-- numbers and flags that may be absent
abbrev pub given_numbers_match : Option ℕ → Option ℕ → Bool
given_numbers_match a b = option_eq nat_eq a b

abbrev pub given_flags_match : Option Bool → Option Bool → Bool
given_flags_match a b = option_eq beq a b

-- numbers, of which an absent one stands for n, and flags, of which an absent one is false
abbrev pub numbers_match_or : ℕ → Option ℕ → Option ℕ → Bool
numbers_match_or n a b = unwrap_or a n == unwrap_or b n

abbrev pub flags_match : Option Bool → Option Bool → Bool
flags_match a b = beq (unwrap_or a false) (unwrap_or b false)

-- ---- Opus (RFC 7587, section 6.1): what each difference costs

abbrev pub score_unless_cost : Bool → ℕ → ℕ
score_unless_cost is_same cost = if is_same then 0 else cost

abbrev pub opus_score : FormatParams → FormatParams → ℕ
opus_score a b =
    100
    - score_unless_cost (given_numbers_match a.min_p_time b.min_p_time) 1
    - score_unless_cost (given_flags_match a.use_inband_fec b.use_inband_fec) 2
    - score_unless_cost (given_flags_match a.use_dtx b.use_dtx) 4
    - score_unless_cost (flags_match a.stereo b.stereo) 8
    - score_unless_cost (flags_match a.sprop_stereo b.sprop_stereo) 8

-- ---- AMR-WB (RFC 4867, section 8.2): one channel on both sides, the same alignment, and modes that don't differ

-- one channel, as there is where nothing is said of it
abbrev pub scores_as_mono : Option ℕ → Bool
scores_as_mono channels = unwrap_or channels 1 == 1

abbrev pub mode_score : Option ℕ → Option ℕ → Option ℕ
mode_score None None = Some 100
mode_score (Some m) (Some n) = when (m == n) 99
mode_score _ _ = Some 99

abbrev pub amr_wb_score : CodecSpec → CodecSpec → Option ℕ
amr_wb_score a b =
    if scores_as_mono a.channels && scores_as_mono b.channels && flags_match a.format.octet_align b.format.octet_align
    then mode_score a.format.mode_set b.format.mode_set
    else None

-- ---- H264 (RFC 6184, section 8.1): the same packetization and profile, and one less for each level between

-- for levels at places m and n of their table, where all else is the same
abbrev pub level_score : Bool → ℕ → ℕ → Option ℕ
level_score is_same m n = when is_same (100 - abs_diff m n)

abbrev pub h264_level_score : Option H264ProfileLevel → Option H264ProfileLevel → Option ℕ
h264_level_score (Some x) (Some y) = level_score (same_profile x.profile y.profile) (h264.level_ordinal x.level) (h264.level_ordinal y.level)
h264_level_score _ _ = None

abbrev pub h264_score : FormatParams → FormatParams → Option ℕ
h264_score a b =
    if numbers_match_or 0 a.packetization_mode b.packetization_mode
    then h264_level_score (h264.named a.profile_level_id) (h264.named b.profile_level_id)
    else None

-- ---- H265 (RFC 7798, section 7.1) and H266 (RFC 9328, section 7.2), each by its own triple: the same profile and tier, and one
-- less for each level between; where a side has no triple, the same profile

-- the numbers of a profile and a tier, and the place of a level
abbrev pub profile_numbers : {P T L : Type 0} → (P → ℕ) → (T → ℕ) → (L → ℕ) → ProfileTierLevel P T L → ProfileNumbers
profile_numbers profile_id tier_flag level_ordinal t = record { profile = profile_id t.profile; tier = tier_flag t.tier; level = level_ordinal t.level }

abbrev pub h265_triple : H265ProfileTierLevel → ProfileNumbers
h265_triple t = profile_numbers h265.profile_id h265.tier_flag h265.level_ordinal t

abbrev pub h266_triple : H266ProfileTierLevel → ProfileNumbers
h266_triple t = profile_numbers h266.profile_id h266.tier_flag h266.level_ordinal t

-- the profile: that of the triple, else the last byte of the profile id, else 1
abbrev pub profile_number : Option ProfileNumbers → Option ℕ → ℕ
profile_number (Some triple) id = triple.profile
profile_number None (Some id) = id % 2 ^ 8
profile_number None None = 1

abbrev pub triple_score : ProfileNumbers → ProfileNumbers → Option ℕ
triple_score x y = level_score (x.profile == y.profile && x.tier == y.tier) x.level y.level

-- by each side's triple, and each side's profile id
abbrev pub profile_score : Option ProfileNumbers → Option ProfileNumbers → Option ℕ → Option ℕ → Option ℕ
profile_score (Some x) (Some y) _ _ = triple_score x y
profile_score x y m n = when (profile_number x m == profile_number y n) 90

-- of two formats, by how a codec's triple counts
abbrev pub tiered_score : (FormatParams → Option ProfileNumbers) → FormatParams → FormatParams → Option ℕ
tiered_score numbers a b = profile_score (numbers a) (numbers b) a.profile_id b.profile_id

-- ---- VP9 (RFC 9628) and AV1 (the RTP payload format of the Alliance for Open Media): the same profile, and of AV1 the same level
-- and tier

abbrev pub vp9_score : FormatParams → FormatParams → Option ℕ
vp9_score a b = when (numbers_match_or 0 a.profile_id b.profile_id) 100

abbrev pub av1_score : FormatParams → FormatParams → Option ℕ
av1_score a b = when (numbers_match_or 0 a.profile b.profile && (numbers_match_or 5 a.level_idx b.level_idx && numbers_match_or 0 a.tier b.tier)) 100

-- ---- all codecs

-- two formats of one codec, by its rule; telephone events and AMR-WB go by more than their formats, and what has no rule of its own
-- fits only where the specs are equal
abbrev pub rule_score : Rule → FormatParams → FormatParams → Option ℕ
rule_score by_flags a b = Some (opus_score a b)
rule_score by_level a b = h264_score a b
rule_score by_h265 a b = tiered_score (λ format. option_map h265_triple format.h265_profile_tier_level) a b
rule_score by_h266 a b = tiered_score (λ format. option_map h266_triple format.h266_profile_tier_level) a b
rule_score by_profile a b = vp9_score a b
rule_score by_av1 a b = av1_score a b
rule_score by_modes a b = None
rule_score by_events a b = None
rule_score by_equality a b = None

abbrev pub format_score : Codec → FormatParams → FormatParams → Option ℕ
format_score codec a b = rule_score (codec_rule codec) a b

-- two specs of one codec at one clock rate; telephone events (RFC 4733) fit whatever their ranges are
abbrev pub codec_score : Codec → CodecSpec → CodecSpec → Option ℕ
codec_score Tele a b = Some 100
codec_score AmrWb a b = amr_wb_score a b
codec_score codec a b = if given_numbers_match a.channels b.channels then format_score codec a.format b.format else None

-- which score two specs have: equal ones fit in full, but for AMR-WB; others don't fit where the codecs or clock rates differ, where
-- both are unknown, or where the channels differ, which telephone events and AMR-WB don't ask; all else is by the codec's own rule
pub record IsScore (a b : CodecSpec) (score : Option ℕ) : Type 0 where
  pub equal : a ≡ b → a.codec ≢ AmrWb → score ≡ Some 100
  pub codecs_differ : a.codec ≢ b.codec → score ≡ None
  pub unknown : a ≢ b → a.codec ≡ Unknown → score ≡ None
  pub clock_rates_differ : a.clock_rate ≢ b.clock_rate → score ≡ None
  pub channels_differ : a.channels ≢ b.channels → a.codec ≢ Tele → a.codec ≢ AmrWb → score ≡ None
  pub alike : (a ≡ b → a.codec ≡ AmrWb) → a.codec ≡ b.codec → a.clock_rate ≡ b.clock_rate → score ≡ codec_score a.codec a b

-- the score as a function
unfoldable pub score : CodecSpec → CodecSpec → Option ℕ
score a b =
    if same_spec a b && not (same_codec a.codec AmrWb) then Some 100
    else if same_codec a.codec b.codec && a.clock_rate == b.clock_rate then codec_score a.codec a b
    else None

-- one channel, or none given
abbrev pub ScoresAsMono : CodecSpec → Type 0
ScoresAsMono a = unwrap_or a.channels 1 ≡ 1

-- what a spec scores with itself: 100, but for AMR-WB, where a mode set costs one, and more than one channel everything
pub record IsSelfScore (a : CodecSpec) (score : Option ℕ) : Type 0 where
  pub others : a.codec ≢ AmrWb → score ≡ Some 100
  pub any_mode : a.codec ≡ AmrWb → ScoresAsMono a → a.format.mode_set ≡ None → score ≡ Some 100
  pub mode_set : a.codec ≡ AmrWb → ScoresAsMono a → a.format.mode_set ≢ None → score ≡ Some 99
  pub not_mono : a.codec ≡ AmrWb → ¬ ScoresAsMono a → score ≡ None
