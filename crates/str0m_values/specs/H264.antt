-- Profiles and levels of H264 as the three bytes of a profile-level-id name them (RFC 6184, section 8.1).
use Rattle.std.specs.Prelude.{◌^◌, ◌/◌, ◌%◌, ◌==◌, ◌&&◌, ◌||◌, ℕ, Bool, not, nat_lt, bit_and, if◌then◌else◌, List, [], ◌∷◌, find, Option, Some, None, option_map}
use Rattle.str0m_values.specs.Cuts.{◌>>=◌}
use Rattle.str0m_values.specs.declared.h264.H264Level.{H264Level}
use Rattle.str0m_values.specs.declared.h264.H264Level.TheVariants as level
use Rattle.str0m_values.specs.declared.h264.H264Profile.{H264Profile}
use Rattle.str0m_values.specs.declared.h264.H264Profile.TheVariants.{ConstrainedBaseline, Baseline, Main, High, ConstrainedHigh, PredictiveHigh444}
use Rattle.str0m_values.specs.declared.h264.H264ProfileLevel.{H264ProfileLevel}

-- ---- profiles

-- a profile, the first byte, which bits of the second byte count, and what those are
abbrev pub H264Pattern : Type 0
H264Pattern = H264Profile × ℕ × ℕ × ℕ

abbrev pub h264_patterns : List H264Pattern
h264_patterns =
    (ConstrainedBaseline, 0x42, 0b0100_1111, 0b0100_0000)
    ∷ (ConstrainedBaseline, 0x4D, 0b1000_1111, 0b1000_0000)
    ∷ (ConstrainedBaseline, 0x58, 0b1100_1111, 0b1100_0000)
    ∷ (Baseline, 0x42, 0b0100_1111, 0b0000_0000)
    ∷ (Baseline, 0x58, 0b1100_1111, 0b1000_0000)
    ∷ (Main, 0x4D, 0b1010_1111, 0b0000_0000)
    ∷ (High, 0x64, 0b1111_1111, 0b0000_0000)
    ∷ (ConstrainedHigh, 0x64, 0b1111_1111, 0b0000_1100)
    ∷ (PredictiveHigh444, 0xF4, 0b1111_1111, 0b0000_0000)
    ∷ []

-- the first byte is that of the pattern, and so are those bits of the second that count
abbrev pub fits_h264_pattern : ℕ → ℕ → H264Pattern → Bool
fits_h264_pattern idc iop pattern = pattern.1 == idc && bit_and iop pattern.2 == pattern.3

-- the profile of the first pattern that fits
abbrev pub profile_of : ℕ → ℕ → Option H264Profile
profile_of idc iop = option_map (λ pattern. pattern.0) (find (fits_h264_pattern idc iop) h264_patterns)

-- ---- levels

-- the third byte that names each level, and the level's place among them
abbrev pub h264_level_entry : H264Level → ℕ × ℕ
h264_level_entry level.L1 = (10, 0)
h264_level_entry level.L1B = (11, 1)
h264_level_entry level.L1_1 = (11, 2)
h264_level_entry level.L1_2 = (12, 3)
h264_level_entry level.L1_3 = (13, 4)
h264_level_entry level.L2 = (20, 5)
h264_level_entry level.L2_1 = (21, 6)
h264_level_entry level.L2_2 = (22, 7)
h264_level_entry level.L3 = (30, 8)
h264_level_entry level.L3_1 = (31, 9)
h264_level_entry level.L3_2 = (32, 10)
h264_level_entry level.L4 = (40, 11)
h264_level_entry level.L4_1 = (41, 12)
h264_level_entry level.L4_2 = (42, 13)
h264_level_entry level.L5 = (50, 14)
h264_level_entry level.L5_1 = (51, 15)
h264_level_entry level.L5_2 = (52, 16)

abbrev pub level_idc : H264Level → ℕ
level_idc level = (h264_level_entry level).0

abbrev pub level_ordinal : H264Level → ℕ
level_ordinal level = (h264_level_entry level).1

-- 11 names 1b in place of 1.1 where this bit of the second byte is set in these profiles
abbrev pub marks_h264_level_1b : ℕ → ℕ → Bool
marks_h264_level_1b idc iop = (idc == 0x42 || idc == 0x4D || idc == 0x58) && bit_and iop 0x10 == 0x10

-- the three bytes name the level
abbrev pub is_level : ℕ → ℕ → ℕ → H264Level → Bool
is_level idc iop third level.L1B = third == 11 && marks_h264_level_1b idc iop
is_level idc iop third level.L1_1 = third == 11 && not (marks_h264_level_1b idc iop)
is_level idc iop third level = third == level_idc level

abbrev pub levels : List H264Level
levels =
    level.L1 ∷ level.L1B ∷ level.L1_1 ∷ level.L1_2 ∷ level.L1_3 ∷ level.L2 ∷ level.L2_1 ∷ level.L2_2 ∷ level.L3
    ∷ level.L3_1 ∷ level.L3_2 ∷ level.L4 ∷ level.L4_1 ∷ level.L4_2 ∷ level.L5 ∷ level.L5_1 ∷ level.L5_2 ∷ []

abbrev pub level_of : ℕ → ℕ → ℕ → Option H264Level
level_of idc iop third = find (is_level idc iop third) levels

-- ---- both

abbrev pub profile_level_of_bytes : ℕ → ℕ → ℕ → Option H264ProfileLevel
profile_level_of_bytes idc iop third =
    profile_of idc iop >>= λ profile.
    level_of idc iop third >>= λ level.
    Some (record { profile = profile; level = level })

-- what a number of three bytes names; a larger one names nothing
abbrev pub profile_level_of : ℕ → Option H264ProfileLevel
profile_level_of id =
    if nat_lt id (2 ^ 24) then profile_level_of_bytes (id / 2 ^ 16) (id / 2 ^ 8 % 2 ^ 8) (id % 2 ^ 8) else None

-- what a profile-level-id names; an absent one means Baseline at level 1
unfoldable pub named : Option ℕ → Option H264ProfileLevel
named None = Some (record { profile = Baseline; level = level.L1 })
named (Some id) = profile_level_of id

-- ---- the lower of two levels (RFC 6184, section 8.2.2)

-- of two profile-level-ids with what they name: the other one where both name a level and its level is lower, else the own one
abbrev pub lower_level_of : Option ℕ → Option ℕ → Option H264ProfileLevel → Option H264ProfileLevel → Option ℕ
lower_level_of own other (Some ours) (Some theirs) =
    if nat_lt (level_ordinal theirs.level) (level_ordinal ours.level) then other else own
lower_level_of own other _ _ = own

abbrev pub lower_level : Option ℕ → Option ℕ → Option ℕ
lower_level own other = lower_level_of own other (named own) (named other)
