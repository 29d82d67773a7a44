-- An H264 row keeps its profile, and its level never grows.
use Rattle.str0m_formats.proofs.Common.{◌≡◌, ◌≢◌, ◌⊎◌, inl, inr, ℕ, Bool, true, false, List, Option, Some, None, refl, sym, ap, ◌∙◌, subst}
use Rattle.str0m_formats.proofs.Common.{arith, unsigned_Decides, ltb-true, same_Some, H264ProfileLevel, nat_lt, if◌then◌else◌}
use Rattle.str0m_formats.proofs.format.FormatParamsEqual.{codec_Decides, spec_Decides}
use Rattle.str0m_formats.proofs.round.MatchScoreRules.{score_test_either_way, score_rules}
use Rattle.str0m_formats.proofs.round.NarrowingSteps.{round_holds}
use Rattle.str0m_formats.specs.declared.codec.Codec.TheVariants.{H264}
use Rattle.str0m_formats.specs.declared.codec.codec_spec.CodecSpec.{CodecSpec}
use Rattle.str0m_formats.specs.declared.row.payload_params.PayloadParams.{PayloadParams}
use Rattle.str0m_formats.specs.round.MatchScore.{same_spec, same_codec, given_numbers_match, numbers_match_or, h264_level_score}
use Rattle.str0m_formats.specs.round.MatchScore.{codec_score, score}
use Rattle.str0m_formats.specs.round.Narrowing.{narrowed, levels_differ}
use Rattle.str0m_formats.specs.round.Rounds.{RoundLeaves}
use Rattle.str0m_formats.specs.round.RoundsPromises.{NamesNoHigher, LevelsNarrow}
use Rattle.str0m_values.specs.H264.{named, level_ordinal, lower_level_of, lower_level}

-- ---- formats that fit name one profile

-- what holds only under a test
level_if_not_none : {A : Type 0} (t : Bool) (o : Option A) → (if t then o else None) ≢ None → o ≢ None
level_if_not_none t o h = grind arith

levels-profile : (x y : H264ProfileLevel) → h264_level_score (Some x) (Some y) ≢ None → x.profile ≡ y.profile
levels-profile x y = grind arith

-- specs that fit are the same, or fit by the rule of their codec
narrowing_fit_rule : (a b : CodecSpec) → score a b ≢ None → (a ≡ b) ⊎ (codec_score a.codec a b ≢ None)
narrowing_fit_rule a b some = elim (score_test_either_way (same_spec a b) (spec_Decides a b)) [
  | inl e ↦ inl e
  | inr n ↦ elim (score_test_either_way (same_codec a.codec b.codec) (codec_Decides a.codec b.codec)) [
    | inr other ↦ absurd (some ((score_rules a b).codecs_differ other))
    | inl codec ↦ elim (score_test_either_way _ (unsigned_Decides a.clock_rate b.clock_rate)) [
      | inr other ↦ absurd (some ((score_rules a b).clock_rates_differ other))
      | inl rate ↦ inr (λ none. some ((score_rules a b).alike (λ e. absurd (n e)) codec rate ∙ none))
    ]
  ]
]

same_profiles : (a b : CodecSpec) → a.codec ≡ H264 → score a b ≢ None → (x y : H264ProfileLevel)
    → named a.format.profile_level_id ≡ Some x → named b.format.profile_level_id ≡ Some y → x.profile ≡ y.profile
same_profiles a b is some x y at_x at_y = elim (narrowing_fit_rule a b some) [
  | inl e ↦
      let id : CodecSpec → Option ℕ = λ spec. spec.format.profile_level_id in
      ap (λ (l : H264ProfileLevel). l.profile) (same_Some x y (sym at_x ∙ ap (λ spec. named (id spec)) e ∙ at_y))
  | inr own ↦
      let Fits : _ → Type 0 = λ codec. codec_score codec a b ≢ None in
      let modes = level_if_not_none (given_numbers_match a.channels b.channels) _ (subst Fits is own) in
      let levels = level_if_not_none (numbers_match_or 0 a.format.packetization_mode b.format.packetization_mode) _ modes in
      levels-profile x y (λ none. levels ((λ i. h264_level_score (at_x i) (at_y i)) ∙ none))
]

-- ---- the lower of two levels

stays_named : (had : H264ProfileLevel) (id : Option ℕ) → named id ≡ Some had → NamesNoHigher had id
stays_named had id e = record { level = had; named_so = e; profile = refl; no_higher = omega arith }

lower_named : (had : H264ProfileLevel) (own other : Option ℕ) → named own ≡ Some had
    → ((theirs : H264ProfileLevel) → named other ≡ Some theirs → had.profile ≡ theirs.profile) → NamesNoHigher had (lower_level own other)
lower_named had own other e same = go (named own) (named other) e refl where
  go : (x y : Option H264ProfileLevel) → x ≡ Some had → named other ≡ y → NamesNoHigher had (lower_level_of own other x y)
  go None y h k = absurd (cc)
  go (Some x) None h k = stays_named had own e
  go (Some x) (Some y) h k = at (nat_lt (level_ordinal y.level) (level_ordinal x.level)) refl where
    at : (b : Bool) → nat_lt (level_ordinal y.level) (level_ordinal x.level) ≡ b → NamesNoHigher had (if b then other else own)
    at true l =
        let lower = ltb-true (level_ordinal y.level) (level_ordinal x.level) l in
        let ordinal : H264ProfileLevel → ℕ = λ named. level_ordinal named.level in
        let place : ordinal x ≡ ordinal had = ap ordinal (same_Some x had h) in
        record { level = y; named_so = k; profile = sym (same y k); no_higher = omega (arith, lower, place) }
    at false l = stays_named had own e

-- ---- a row's spec

-- an H264 spec stays one, and where it names a level it does so after, of the same profile, and the level doesn't grow
abbrev pub NarrowsLevels : CodecSpec → CodecSpec → Type 0
NarrowsLevels old new = old.codec ≡ H264 → (had : H264ProfileLevel) → named old.format.profile_level_id ≡ Some had
    → (new.codec ≡ H264) × NamesNoHigher had new.format.profile_level_id

pub narrows_levels-same : (spec : CodecSpec) → NarrowsLevels spec spec
narrows_levels-same spec is had e = (is, stays_named had spec.format.profile_level_id e)

pub narrows_levels-then : (a b c : CodecSpec) → NarrowsLevels a b → NarrowsLevels b c → NarrowsLevels a c
narrows_levels-then a b c first second is had e =
    let f = first is had e in
    let s = second f.0 f.1.level f.1.named_so in (
      s.0,
      record {
        level = s.1.level;
        named_so = s.1.named_so;
        profile = s.1.profile ∙ f.1.profile;
        no_higher = omega (arith, s.1.no_higher, f.1.no_higher);
      },
    )

narrowed-lowers : (own chosen : CodecSpec) → score own chosen ≢ None → NarrowsLevels own (narrowed own chosen)
unfolding narrowed
narrowed-lowers own chosen some is had e =
    grind (arith, levels_differ own.format chosen.format, stays_named had, lower_named had, same_profiles own chosen is some had)

-- a round doesn't raise the level of an H264 row
pub levels_narrow : (before remote : List PayloadParams) (receives : Bool) (after : List PayloadParams)
    → RoundLeaves before remote receives after
    → LevelsNarrow before after
levels_narrow = round_holds NarrowsLevels narrows_levels-same narrowed-lowers
