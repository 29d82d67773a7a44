-- No score is above 100.
use Rattle.str0m_formats.proofs.Common.{arith, ◌≤◌, ◌==◌, ◌&&◌, not, ℕ, Bool, true, false, Option, Some, None, IfSome, if◌then◌else◌}
use Rattle.str0m_formats.proofs.Common.{H264ProfileLevel}
use Rattle.str0m_formats.specs.codec.Codec.{Rule, codec_rule, is_amr_wb}
use Rattle.str0m_formats.specs.declared.codec.Codec.{Codec}
use Rattle.str0m_formats.specs.declared.codec.Codec.TheVariants.{AmrWb, Tele}
use Rattle.str0m_formats.specs.declared.codec.codec_spec.CodecSpec.{CodecSpec}
use Rattle.str0m_formats.specs.declared.format.format_params.FormatParams.{FormatParams}
use Rattle.str0m_formats.specs.declared.round.match_score.ProfileNumbers.{ProfileNumbers}
use Rattle.str0m_formats.specs.declared.row.payload_params.PayloadParams.{PayloadParams}
use Rattle.str0m_formats.specs.round.Choices.{choice_points_for}
use Rattle.str0m_formats.specs.round.Claimed.{TypeSet}
use Rattle.str0m_formats.specs.round.MatchScore.{opus_score, mode_score, amr_wb_score, level_score, h264_level_score, h264_score}
use Rattle.str0m_formats.specs.round.MatchScore.{profile_score}
use Rattle.str0m_formats.specs.round.MatchScore.{given_numbers_match, numbers_match_or, same_codec, same_spec, rule_score, codec_score}
use Rattle.str0m_formats.specs.round.MatchScore.{score}
use Rattle.str0m_values.specs.H264.{named}

abbrev FitsAtMostInFull : Option ℕ → Type 0
FitsAtMostInFull o = IfSome o (λ n. n ≤ 100)

opus_bound : (a b : FormatParams) → opus_score a b ≤ 100
opus_bound a b = omega arith

modes_bound : (m n : Option ℕ) → FitsAtMostInFull (mode_score m n)
modes_bound m n = grind arith

amr_wb_bound : (a b : CodecSpec) → FitsAtMostInFull (amr_wb_score a b)
amr_wb_bound a b = grind (arith, modes_bound)

level_bound : (is_same : Bool) (m n : ℕ) → FitsAtMostInFull (level_score is_same m n)
level_bound is_same m n = grind arith

h264_levels_bound : (x y : Option H264ProfileLevel) → FitsAtMostInFull (h264_level_score x y)
h264_levels_bound x y = grind (arith, level_bound)

either_bound : (t : Bool) (o p : Option ℕ) → FitsAtMostInFull o → FitsAtMostInFull p → FitsAtMostInFull (if t then o else p)
either_bound true o p h k = h
either_bound false o p h k = k

h264_bound : (a b : FormatParams) → FitsAtMostInFull (h264_score a b)
h264_bound a b = either_bound (numbers_match_or 0 a.packetization_mode b.packetization_mode) _ None
    (h264_levels_bound (named a.profile_level_id) (named b.profile_level_id)) tt

profile_bound : (x y : Option ProfileNumbers) (m n : Option ℕ) → FitsAtMostInFull (profile_score x y m n)
profile_bound x y m n = grind (arith, level_bound)

rule_bound : (rule : Rule) (a b : FormatParams) → FitsAtMostInFull (rule_score rule a b)
rule_bound rule a b = grind (arith, opus_bound, h264_bound, profile_bound)

codec_bound : (c : Codec) (a b : CodecSpec) → FitsAtMostInFull (codec_score c a b)
codec_bound Tele a b = grind arith
codec_bound AmrWb a b = amr_wb_bound a b
codec_bound c a b = either_bound (given_numbers_match a.channels b.channels) _ None (rule_bound (codec_rule c) a.format b.format) tt

score_bound : (a b : CodecSpec) → FitsAtMostInFull (score a b)
unfolding score
score_bound a b = either_bound (same_spec a b && not (same_codec a.codec AmrWb)) (Some 100) _ (omega arith)
    (either_bound (same_codec a.codec b.codec && a.clock_rate == b.clock_rate) _ None (codec_bound a.codec a b) tt)

pub points_bound : (taken : TypeSet) (receives : Bool) (row theirs : PayloadParams)
    → IfSome (choice_points_for taken receives row theirs) (λ n. n ≤ 100)
unfolding choice_points_for
points_bound taken receives row theirs = either_bound (is_amr_wb row.spec.codec && (not row.locked && (receives && taken theirs.pt))) None _
    tt
    (score_bound row.spec theirs.spec)
