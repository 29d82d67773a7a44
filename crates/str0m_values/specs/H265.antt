-- Profiles, tiers and levels of H265 (RFC 7798, section 7.1), in one table each.
use Rattle.std.specs.Prelude.{ℕ}
use Rattle.str0m_values.specs.ProfileTierLevel.{ProfileTables}
use Rattle.str0m_values.specs.declared.h265.H265Level.{H265Level}
use Rattle.str0m_values.specs.declared.h265.H265Level.TheVariants as level
use Rattle.str0m_values.specs.declared.h265.H265Profile.{H265Profile}
use Rattle.str0m_values.specs.declared.h265.H265Profile.TheVariants as profile
use Rattle.str0m_values.specs.declared.h265.H265Tier.{H265Tier}
use Rattle.str0m_values.specs.declared.h265.H265Tier.TheVariants as tier
use Rattle.str0m_values.specs.declared.h265.TheConstants.{H265_PROFILES, H265_TIERS, H265_LEVELS}
use Rattle.str0m_values.specs.declared.profile_tier_level.ProfileTierLevel.{ProfileTierLevel}

abbrev pub H265ProfileTierLevel : Type 0
H265ProfileTierLevel = ProfileTierLevel H265Profile H265Tier H265Level

-- the number of each profile
abbrev pub profile_id : H265Profile → ℕ
profile_id profile.Main = 1
profile_id profile.Main10 = 2
profile_id profile.MainStillPicture = 3
profile_id profile.RangeExtensions = 4
profile_id profile.HighThroughput = 5
profile_id profile.MultiviewMain = 6
profile_id profile.ScalableMain = 7
profile_id profile.Main3D = 8
profile_id profile.ScreenExtended = 9
profile_id profile.ScalableRangeExtensions = 10
profile_id profile.HighThroughputScreenExtended = 11

-- the flag of each tier
abbrev pub tier_flag : H265Tier → ℕ
tier_flag tier.Main = 0
tier_flag tier.High = 1

-- the number of each level, and its place among them
abbrev pub h265_level_entry : H265Level → ℕ × ℕ
h265_level_entry level.L1 = (30, 0)
h265_level_entry level.L2 = (60, 1)
h265_level_entry level.L2_1 = (63, 2)
h265_level_entry level.L3 = (90, 3)
h265_level_entry level.L3_1 = (93, 4)
h265_level_entry level.L4 = (120, 5)
h265_level_entry level.L4_1 = (123, 6)
h265_level_entry level.L5 = (150, 7)
h265_level_entry level.L5_1 = (153, 8)
h265_level_entry level.L5_2 = (156, 9)
h265_level_entry level.L6 = (180, 10)
h265_level_entry level.L6_1 = (183, 11)
h265_level_entry level.L6_2 = (186, 12)

abbrev pub level_id : H265Level → ℕ
level_id level = (h265_level_entry level).0

abbrev pub level_ordinal : H265Level → ℕ
level_ordinal level = (h265_level_entry level).1

-- the numbers that an absent part stands for, and those of the fallback
abbrev pub h265_defaults : ℕ × ℕ × ℕ
h265_defaults = (1, 0, 93)

abbrev pub h265_tables : ProfileTables H265Profile H265Tier H265Level
h265_tables = record { profile_id = profile_id; tier_flag = tier_flag; level_id = level_id; profiles = H265_PROFILES; tiers = H265_TIERS; levels = H265_LEVELS; defaults = h265_defaults }
