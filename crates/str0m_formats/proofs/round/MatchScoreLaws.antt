-- The score is the same both ways, and what a spec scores with itself.
use Rattle.str0m_formats.proofs.Common.{arith, ◌≡◌, ◌≢◌, ◌==◌, inl, inr, ℕ, Bool, true, false, Option, Some, None, refl, sym, ap, ◌∙◌}
use Rattle.str0m_formats.proofs.Common.{subst, unsigned_Decides, when, H264ProfileLevel, unwrap_or, nat_eq_equiv, bool_eq_equiv}
use Rattle.str0m_formats.proofs.Common.{options_equiv, and_comm}
use Rattle.str0m_formats.proofs.format.FormatParamsEqual.{codec_Decides, spec_Decides}
use Rattle.str0m_formats.proofs.round.MatchScoreRules.{score_test_either_way, score_rules}
use Rattle.str0m_formats.specs.declared.codec.Codec.{Codec}
use Rattle.str0m_formats.specs.declared.codec.Codec.TheVariants.{AmrWb, Tele}
use Rattle.str0m_formats.specs.declared.codec.codec_spec.CodecSpec.{CodecSpec}
use Rattle.str0m_formats.specs.declared.format.format_params.FormatParams.{FormatParams}
use Rattle.str0m_formats.specs.declared.round.match_score.ProfileNumbers.{ProfileNumbers}
use Rattle.str0m_formats.specs.round.MatchScore.{same_codec, same_spec, given_numbers_match, given_flags_match, flags_match}
use Rattle.str0m_formats.specs.round.MatchScore.{numbers_match_or}
use Rattle.str0m_formats.specs.round.MatchScore.{opus_score, scores_as_mono}
use Rattle.str0m_formats.specs.round.MatchScore.{mode_score}
use Rattle.str0m_formats.specs.round.MatchScore.{amr_wb_score, h264_level_score, h264_score, profile_score, av1_score, format_score}
use Rattle.str0m_formats.specs.round.MatchScore.{codec_score, score, IsSelfScore}

score_numbers_flip : (m n : ℕ) → (m == n) ≡ (n == m)
score_numbers_flip m n = nat_eq_equiv.symm m n

-- a test's score is the same both ways
score_number_flips : (score m n : ℕ) → when (m == n) score ≡ when (n == m) score
score_number_flips score m n = ap (λ t. when t score) (score_numbers_flip m n)

score_given_numbers_flip : (a b : Option ℕ) → given_numbers_match a b ≡ given_numbers_match b a
score_given_numbers_flip a b = (options_equiv nat_eq_equiv).symm a b

score_given_flags_flip : (a b : Option Bool) → given_flags_match a b ≡ given_flags_match b a
score_given_flags_flip a b = (options_equiv bool_eq_equiv).symm a b

score_flags_flip : (a b : Option Bool) → flags_match a b ≡ flags_match b a
score_flags_flip a b = bool_eq_equiv.symm (unwrap_or a false) (unwrap_or b false)

score_numbers_or_flip : (n : ℕ) (a b : Option ℕ) → numbers_match_or n a b ≡ numbers_match_or n b a
score_numbers_or_flip n a b = score_numbers_flip (unwrap_or a n) (unwrap_or b n)

opus_flips : (a b : FormatParams) → opus_score a b ≡ opus_score b a
opus_flips a b = grind (arith, score_given_numbers_flip, score_given_flags_flip, score_flags_flip)

modes_flip : (m n : Option ℕ) → mode_score m n ≡ mode_score n m
modes_flip m n = grind arith

amr_wb_score_flips : (a b : CodecSpec) → amr_wb_score a b ≡ amr_wb_score b a
amr_wb_score_flips a b = grind (arith, scores_as_mono, and_comm, score_flags_flip, modes_flip)

h264_levels_flip : (x y : Option H264ProfileLevel) → h264_level_score x y ≡ h264_level_score y x
h264_levels_flip x y = grind arith

h264_flips : (a b : FormatParams) → h264_score a b ≡ h264_score b a
h264_flips a b = grind (arith, score_numbers_or_flip, h264_levels_flip)

profiles_flip : (x y : Option ProfileNumbers) (m n : Option ℕ) → profile_score x y m n ≡ profile_score y x n m
profiles_flip x y m n = grind arith

av1_flips : (a b : FormatParams) → av1_score a b ≡ av1_score b a
av1_flips a b = grind (arith, score_numbers_or_flip)

formats_flip : (c : Codec) (a b : FormatParams) → format_score c a b ≡ format_score c b a
formats_flip c a b = grind (arith, opus_flips, h264_flips, profiles_flip, score_number_flips, av1_flips)

codec_flips : (c : Codec) (a b : CodecSpec) → codec_score c a b ≡ codec_score c b a
codec_flips Tele a b = refl
codec_flips AmrWb a b = amr_wb_score_flips a b
codec_flips c a b = grind (arith, score_given_numbers_flip a.channels b.channels, formats_flip c a.format b.format)

pub score_flips : (a b : CodecSpec) → score a b ≡ score b a
score_flips a b =
    let there = score_rules a b in
    let back = score_rules b a in
    elim (score_test_either_way (same_spec a b) (spec_Decides a b)) [
      | inl e ↦ λ i. score (e i) (sym e i)
      | inr n ↦ elim (score_test_either_way _ (codec_Decides a.codec b.codec)) [
        | inr other ↦ there.codecs_differ other ∙ sym (back.codecs_differ (λ k. other (sym k)))
        | inl c ↦ elim (score_test_either_way _ (unsigned_Decides a.clock_rate b.clock_rate)) [
          | inr other ↦ there.clock_rates_differ other ∙ sym (back.clock_rates_differ (λ k. other (sym k)))
          | inl r ↦ there.alike (λ e. absurd (n e)) c r
              ∙ codec_flips a.codec a b
              ∙ (λ i. codec_score (c i) b a)
              ∙ sym (back.alike (λ e. absurd (n (sym e))) (sym c) (sym r))
        ]
      ]
    ]

-- what AMR-WB scores with itself
amr_wb_score_itself : (a : CodecSpec) → a.codec ≡ AmrWb → score a a ≡ amr_wb_score a a
amr_wb_score_itself a e = (score_rules a a).alike (λ _. e) refl refl ∙ (λ i. codec_score (e i) a a)

score_alignment_itself : (a : Option Bool) → flags_match a a ≡ true
score_alignment_itself a = bool_eq_equiv.refl (unwrap_or a false)

mono_score_itself : (a : CodecSpec) → unwrap_or a.channels 1 ≡ 1 → amr_wb_score a a ≡ mode_score a.format.mode_set a.format.mode_set
mono_score_itself a one = grind arith

score_of_more_channels : (a : CodecSpec) → unwrap_or a.channels 1 ≢ 1 → amr_wb_score a a ≡ None
score_of_more_channels a more = grind arith

any_mode : (m : Option ℕ) → m ≡ None → mode_score m m ≡ Some 100
any_mode m e = ap (λ n. mode_score n n) e

mode_set_counts : (m : Option ℕ) → m ≢ None → mode_score m m ≡ Some 99
mode_set_counts m other = grind arith

own_score : (a : CodecSpec) → IsSelfScore a (score a a)
own_score a = record {
  others = λ other. (score_rules a a).equal refl other;
  any_mode = λ e one none. amr_wb_score_itself a e ∙ mono_score_itself a one ∙ any_mode a.format.mode_set none;
  mode_set = λ e one given. amr_wb_score_itself a e ∙ mono_score_itself a one ∙ mode_set_counts a.format.mode_set given;
  not_mono = λ e more. amr_wb_score_itself a e ∙ score_of_more_channels a more;
}

pub score_itself : (a b : CodecSpec) → a ≡ b → IsSelfScore a (score a b)
score_itself a b e = subst (λ (x : CodecSpec). IsSelfScore a (score a x)) e (own_score a)

-- ---- specs of one codec at one rate

-- what is of AMR-WB scores by its modes, equal or not
pub score_of_amr_wb : (a b : CodecSpec) → same_codec a.codec AmrWb ≡ true → same_codec a.codec b.codec ≡ true
    → (a.clock_rate == b.clock_rate) ≡ true → score a b ≡ codec_score a.codec a b
score_of_amr_wb a b amr codec rate = (score_rules a b).alike (λ _. (codec_Decides a.codec AmrWb).0 amr)
    ((codec_Decides a.codec b.codec).0 codec) ((unsigned_Decides a.clock_rate b.clock_rate).0 rate)

-- what fits in full by the codec's rule does so, equal or not
pub score_in_full : (a b : CodecSpec) → codec_score a.codec a b ≡ Some 100 → same_codec a.codec b.codec ≡ true
    → (a.clock_rate == b.clock_rate) ≡ true → score a b ≡ Some 100
score_in_full a b full codec rate =
    let same = (codec_Decides a.codec b.codec).0 codec in
    let at_one_rate = (unsigned_Decides a.clock_rate b.clock_rate).0 rate in
    elim (score_test_either_way (same_spec a b) (spec_Decides a b)) [
      | inr n ↦ (score_rules a b).alike (λ e. absurd (n e)) same at_one_rate ∙ full
      | inl e ↦ elim (score_test_either_way _ (codec_Decides a.codec AmrWb)) [
        | inl amr ↦ (score_rules a b).alike (λ _. amr) same at_one_rate ∙ full
        | inr other ↦ (score_rules a b).equal e other
      ]
    ]
