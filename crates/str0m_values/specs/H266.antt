-- Profiles, tiers and levels of H266 (RFC 9328, section 7.2), in one table each.
use Rattle.std.specs.Prelude.{ℕ}
use Rattle.str0m_values.specs.ProfileTierLevel.{ProfileTables}
use Rattle.str0m_values.specs.declared.h266.H266Level.{H266Level}
use Rattle.str0m_values.specs.declared.h266.H266Level.TheVariants as level
use Rattle.str0m_values.specs.declared.h266.H266Profile.{H266Profile}
use Rattle.str0m_values.specs.declared.h266.H266Profile.TheVariants as profile
use Rattle.str0m_values.specs.declared.h266.H266Tier.{H266Tier}
use Rattle.str0m_values.specs.declared.h266.H266Tier.TheVariants as tier
use Rattle.str0m_values.specs.declared.h266.TheConstants.{H266_PROFILES, H266_TIERS, H266_LEVELS}
use Rattle.str0m_values.specs.declared.profile_tier_level.ProfileTierLevel.{ProfileTierLevel}

abbrev pub H266ProfileTierLevel : Type 0
H266ProfileTierLevel = ProfileTierLevel H266Profile H266Tier H266Level

-- the number of each profile
abbrev pub profile_id : H266Profile → ℕ
profile_id profile.Main10 = 1
profile_id profile.MultilayerMain10 = 17
profile_id profile.Main10_444 = 33
profile_id profile.MultilayerMain10_444 = 49
profile_id profile.Main10StillPicture = 65
profile_id profile.Main10_444StillPicture = 97

-- the flag of each tier
abbrev pub tier_flag : H266Tier → ℕ
tier_flag tier.Main = 0
tier_flag tier.High = 1

-- the number of each level, and its place among them
abbrev pub h266_level_entry : H266Level → ℕ × ℕ
h266_level_entry level.L1 = (16, 0)
h266_level_entry level.L2 = (32, 1)
h266_level_entry level.L2_1 = (35, 2)
h266_level_entry level.L3 = (48, 3)
h266_level_entry level.L3_1 = (51, 4)
h266_level_entry level.L4 = (64, 5)
h266_level_entry level.L4_1 = (67, 6)
h266_level_entry level.L5 = (80, 7)
h266_level_entry level.L5_1 = (83, 8)
h266_level_entry level.L5_2 = (86, 9)
h266_level_entry level.L6 = (96, 10)
h266_level_entry level.L6_1 = (99, 11)
h266_level_entry level.L6_2 = (102, 12)
h266_level_entry level.L6_3 = (105, 13)

abbrev pub level_id : H266Level → ℕ
level_id level = (h266_level_entry level).0

abbrev pub level_ordinal : H266Level → ℕ
level_ordinal level = (h266_level_entry level).1

-- the numbers that an absent part stands for, and those of the fallback
abbrev pub h266_defaults : ℕ × ℕ × ℕ
h266_defaults = (1, 0, 51)

abbrev pub h266_tables : ProfileTables H266Profile H266Tier H266Level
h266_tables = record { profile_id = profile_id; tier_flag = tier_flag; level_id = level_id; profiles = H266_PROFILES; tiers = H266_TIERS; levels = H266_LEVELS; defaults = h266_defaults }
