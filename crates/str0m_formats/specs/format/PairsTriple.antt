-- The profile, tier and level that three values of a format name: H265's table (RFC 7798, section 7.1) comes first, then
-- H266's (RFC 9328, section 7.2).
use Rattle.std.specs.Prelude.{◌≡◌, ℕ, List, Option, Some, None}
use Rattle.str0m_formats.specs.Prelude.{FirstFit, HasGivenNumbers}
use Rattle.str0m_formats.specs.declared.format.format_param.FormatParam.{FormatParam}
use Rattle.str0m_formats.specs.declared.format.format_param.FormatParam.TheVariants.{H265ProfileTierLevel, H266ProfileTierLevel}
use Rattle.str0m_values.specs.H265 as h265
use Rattle.str0m_values.specs.H265.{H265ProfileTierLevel as h265_triple}
use Rattle.str0m_values.specs.H266 as h266
use Rattle.str0m_values.specs.H266.{H266ProfileTierLevel as h266_triple}

-- the values of `profile-id`, `tier-flag` and `level-id`, where they are given
abbrev pub TripleTexts : Type 0
TripleTexts = Option (List ℕ) × Option (List ℕ) × Option (List ℕ)

-- the parameter is a triple with the numbers of the texts
abbrev pub IsH265Param : TripleTexts → Option FormatParam → Type 0
IsH265Param texts param =
    (t : h265_triple) × HasGivenNumbers h265.profile_id h265.tier_flag h265.level_id h265.h265_defaults texts.0 texts.1 texts.2 t × (param ≡ Some (H265ProfileTierLevel t))

abbrev pub IsH266Param : TripleTexts → Option FormatParam → Type 0
IsH266Param texts param =
    (t : h266_triple) × HasGivenNumbers h266.profile_id h266.tier_flag h266.level_id h266.h266_defaults texts.0 texts.1 texts.2 t × (param ≡ Some (H266ProfileTierLevel t))

abbrev pub IsNoParam : TripleTexts → Option FormatParam → Type 0
IsNoParam texts param = param ≡ None

-- the triple of H265 where the values name one, else that of H266, else none
abbrev pub IsTripleParam : TripleTexts → Option FormatParam → Type 0
IsTripleParam = FirstFit IsH265Param (FirstFit IsH266Param IsNoParam)
