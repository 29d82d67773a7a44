-- When two formats are equal, two specs and two parameters: `==` of each part decides, and so does that of the whole.
use Rattle.str0m_formats.proofs.Common.{◌≡◌, ◌==◌, ℕ, Bool, true, false, Option, nat_eq, refl, sym, ◌∙◌, Decides, unsigned_Decides}
use Rattle.str0m_formats.proofs.Common.{option_eq}
use Rattle.str0m_formats.proofs.Common.{H265ProfileTierLevel, H266ProfileTierLevel}
use Rattle.str0m_formats.proofs.format.FormatParamsDerived.{ParamEqualityTest, param_equality, param_eq_word}
use Rattle.str0m_formats.specs.contracts.codec.Codec as codec_type
use Rattle.str0m_formats.specs.contracts.format.format_params.FormatParamsPartialEq.TheImpl as format_eq
use Rattle.str0m_formats.specs.declared.codec.Codec.{Codec}
use Rattle.str0m_formats.specs.declared.codec.codec_spec.CodecSpec.{CodecSpec}
use Rattle.str0m_formats.specs.declared.format.format_params.FormatParams.{FormatParams}
use Rattle.str0m_formats.specs.round.MatchScore.{same_codec, given_numbers_match, same_spec}
use Rattle.str0m_values.specs.contracts.h265.H265Level as h265_level
use Rattle.str0m_values.specs.contracts.h265.H265Profile as h265_profile
use Rattle.str0m_values.specs.contracts.h265.H265Tier as h265_tier
use Rattle.str0m_values.specs.contracts.h266.H266Level as h266_level
use Rattle.str0m_values.specs.contracts.h266.H266Profile as h266_profile
use Rattle.str0m_values.specs.contracts.h266.H266Tier as h266_tier
pub use Rattle.str0m_formats.proofs.format.FormatParamsDerived.{param_option_Decides, param_bare_Decides}

pub param_options_decided : (a b : Option ℕ) → Decides (option_eq nat_eq a b) (a ≡ b)
param_options_decided = param_option_Decides nat_eq unsigned_Decides

abbrev pub eq_h265 : ParamEqualityTest H265ProfileTierLevel
eq_h265 = hlevel (
  param_eq_word h265_profile.the_type tt,
  param_eq_word h265_tier.the_type tt,
  param_eq_word h265_level.the_type tt,
  param_equality,
)

abbrev pub eq_h266 : ParamEqualityTest H266ProfileTierLevel
eq_h266 = hlevel (
  param_eq_word h266_profile.the_type tt,
  param_eq_word h266_tier.the_type tt,
  param_eq_word h266_level.the_type tt,
  param_equality,
)

abbrev format : ParamEqualityTest FormatParams
format = hlevel (eq_h265, eq_h266, param_equality)

pub format_Decides : (a b : FormatParams) → Decides (format_eq.eq-value.it a b) (a ≡ b)
format_Decides a b = format.decides a b

abbrev codec : ParamEqualityTest Codec
codec = param_eq_word codec_type.the_type tt

pub codec_Decides : (a b : Codec) → Decides (same_codec a b) (a ≡ b)
codec_Decides a b = codec.decides a b

abbrev pub spec : ParamEqualityTest CodecSpec
spec = hlevel (codec, format, param_equality)

pub spec_Decides : (a b : CodecSpec) → Decides (same_spec a b) (a ≡ b)
spec_Decides a b = spec.decides a b

-- a test that decides is false of what isn't
pub param_equality_fails : {P : Type 0} (t : Bool) → Decides t P → (P → ⊥) → t ≡ false
param_equality_fails true d n = absurd (n (d.0 refl))
param_equality_fails false d n = refl

-- what is true of equal specs, and false of these two, tells them apart
specs_apart : (t : Bool) (a b : CodecSpec) → (a ≡ b → t ≡ true) → t ≡ false → same_spec a b ≡ false
specs_apart t a b holds h = param_equality_fails (same_spec a b) (spec_Decides a b) (λ e. let it : true ≡ false = sym (holds e) ∙ h in cc)

-- specs of two codecs or rates are not equal, nor are those whose formats differ in a number
pub other_codec : (a b : CodecSpec) → same_codec a.codec b.codec ≡ false → same_spec a b ≡ false
other_codec a b = specs_apart (same_codec a.codec b.codec) a b (λ e. (codec_Decides a.codec b.codec).1 (λ i. (e i).codec))

pub other_rate : (a b : CodecSpec) → (a.clock_rate == b.clock_rate) ≡ false → same_spec a b ≡ false
other_rate a b = specs_apart (a.clock_rate == b.clock_rate) a b (λ e. (unsigned_Decides _ _).1 (λ i. (e i).clock_rate))

pub other_level : (a b : CodecSpec) → given_numbers_match a.format.profile_level_id b.format.profile_level_id ≡ false
    → same_spec a b ≡ false
other_level a b = specs_apart (given_numbers_match a.format.profile_level_id b.format.profile_level_id) a b
    (λ e. (param_options_decided _ _).1 (λ i. (e i).format.profile_level_id))

pub other_mode : (a b : CodecSpec) → given_numbers_match a.format.packetization_mode b.format.packetization_mode ≡ false
    → same_spec a b ≡ false
other_mode a b = specs_apart (given_numbers_match a.format.packetization_mode b.format.packetization_mode) a b
    (λ e. (param_options_decided _ _).1 (λ i. (e i).format.packetization_mode))
