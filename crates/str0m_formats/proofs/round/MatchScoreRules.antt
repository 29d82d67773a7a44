-- The rules of the score, from the function.
use Rattle.str0m_formats.proofs.Common.{arith, ◌≡◌, ◌≢◌, ◌==◌, ◌⊎◌, inl, inr, ℕ, Bool, false, Option, None, refl, ap, ◌∙◌, Decides}
use Rattle.str0m_formats.proofs.Common.{unsigned_Decides, and-false, if◌then◌else◌}
use Rattle.str0m_formats.proofs.format.FormatParamsEqual.{param_options_decided, codec_Decides, spec_Decides, param_equality_fails}
use Rattle.str0m_formats.specs.declared.codec.Codec.{Codec}
use Rattle.str0m_formats.specs.declared.codec.Codec.TheVariants.{AmrWb, Tele, Unknown}
use Rattle.str0m_formats.specs.declared.codec.codec_spec.CodecSpec.{CodecSpec}
use Rattle.str0m_formats.specs.round.MatchScore.{same_codec, same_spec, given_numbers_match, codec_score, score, IsScore}

-- what a test decides holds or doesn't
pub score_test_either_way : {P : Type 0} (t : Bool) → Decides t P → P ⊎ (P → ⊥)
score_test_either_way t d = grind arith

score_none_both : (t : Bool) → ◌≡◌ {A = Option ℕ} (if t then None else None) None
score_none_both t = grind arith

score_of_unknown : (c : Codec) (a b : CodecSpec) → c ≡ Unknown → codec_score c a b ≡ None
score_of_unknown c a b e = ap (λ d. codec_score d a b) e ∙ score_none_both (given_numbers_match a.channels b.channels)

score_of_channels : (c : Codec) (a b : CodecSpec) → given_numbers_match a.channels b.channels ≡ false → c ≢ Tele → c ≢ AmrWb
    → codec_score c a b ≡ None
score_of_channels c a b e t m = grind arith

module _ (a b : CodecSpec) where
  specs_differ : (a ≡ b → ⊥) → same_spec a b ≡ false
  specs_differ n = param_equality_fails (same_spec a b) (spec_Decides a b) n

  not_same_codec : (a.codec ≡ b.codec → ⊥) → same_codec a.codec b.codec ≡ false
  not_same_codec n = param_equality_fails (same_codec a.codec b.codec) (codec_Decides a.codec b.codec) n

  score_not_amr_wb : (a.codec ≡ AmrWb → ⊥) → same_codec a.codec AmrWb ≡ false
  score_not_amr_wb n = param_equality_fails (same_codec a.codec AmrWb) (codec_Decides a.codec AmrWb) n

  -- a codec's own score, where the specs aren't equal or the codec is AMR-WB
  codec_own_score : (a ≡ b → a.codec ≡ AmrWb) → a.codec ≡ b.codec → a.clock_rate ≡ b.clock_rate → score a b ≡ codec_score a.codec a b
  unfolding score
  codec_own_score same e k =
      let c = (codec_Decides a.codec b.codec).1 e in
      let r = (unsigned_Decides a.clock_rate b.clock_rate).1 k in
      elim (score_test_either_way (same_spec a b) (spec_Decides a b)) [
        | inl p ↦ let m = (codec_Decides a.codec AmrWb).1 (same p) in rw (m, and-false, c, r) refl
        | inr n ↦ let s = specs_differ n in rw (s, c, r) refl
      ]

  pub score_rules : IsScore a b (score a b)
  unfolding score
  score_rules = record {
    equal = λ e n. let s = (spec_Decides a b).1 e in let m = score_not_amr_wb n in rw (s, m) refl;
    codecs_differ = λ n. let s = specs_differ (λ e. n (ap (λ (x : CodecSpec). x.codec) e)) in let c = not_same_codec n in rw (s, c) refl;
    unknown = λ n u. let s = specs_differ n in let own = score_of_unknown a.codec a b u in rw (s, own) (score_none_both _);
    clock_rates_differ = λ n. let s = specs_differ (λ e. n (ap (λ (x : CodecSpec). x.clock_rate) e)) in
        let r = param_equality_fails (a.clock_rate == b.clock_rate) (unsigned_Decides a.clock_rate b.clock_rate) n in
        rw (s, r, and-false) refl;
    channels_differ = λ n t m. let s = specs_differ (λ e. n (ap (λ (x : CodecSpec). x.channels) e)) in
        let own = score_of_channels a.codec a b
        (param_equality_fails (given_numbers_match a.channels b.channels) (param_options_decided a.channels b.channels) n) t m
        in
        rw (s, own) (score_none_both _);
    alike = codec_own_score;
  }
