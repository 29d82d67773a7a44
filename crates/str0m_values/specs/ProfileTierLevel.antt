-- A profile, a tier and a level of a codec, by the numbers that stand for each.
use Rattle.std.specs.Borrow.{Bor}
use Rattle.std.specs.Prelude.{◌≡◌, ◌==◌, ℕ, List, find, Option, option_map}
use Rattle.str0m_values.specs.CutsParts.{IsGivenNumber, part_text_of}
use Rattle.str0m_values.specs.declared.profile_tier_level.ProfileTierLevel.{ProfileTierLevel}

-- the triple has these numbers
pub record HasNumbers {P T L : Type 0} (profile_id : P → ℕ) (tier_flag : T → ℕ) (level_id : L → ℕ) (profile tier level : ℕ) (triple : ProfileTierLevel P T L) : Type 0 where
  pub profile_is : profile_id triple.profile ≡ profile
  pub tier_is : tier_flag triple.tier ≡ tier
  pub level_is : level_id triple.level ≡ level

-- the triple has the numbers of these texts, or the defaults where there is none
pub record HasGivenNumbers {P T L : Type 0} (profile_id : P → ℕ) (tier_flag : T → ℕ) (level_id : L → ℕ) (defaults : ℕ × ℕ × ℕ)
    (profile tier level : Option (List ℕ)) (triple : ProfileTierLevel P T L) : Type 0 where
  pub profile_is : IsGivenNumber 255 defaults.0 profile (profile_id triple.profile)
  pub tier_is : IsGivenNumber 255 defaults.1 tier (tier_flag triple.tier)
  pub level_is : IsGivenNumber 255 defaults.2 level (level_id triple.level)

abbrev pub HasNumbersOfTexts : {P T L : Type 0} → (P → ℕ) → (T → ℕ) → (L → ℕ) → ℕ × ℕ × ℕ
    → (profile tier level : Option (Bor (List ℕ))) → ProfileTierLevel P T L → Type 0
HasNumbersOfTexts profile_id tier_flag level_id defaults profile tier level =
    HasGivenNumbers profile_id tier_flag level_id defaults (part_text_of profile) (part_text_of tier) (part_text_of level)

-- the value beside a number in a table
abbrev pub profile_table_value : {A : Type 0} → List (A × ℕ) → ℕ → Option A
profile_table_value rows n = option_map (λ it. it.0) (find (λ it. it.1 == n) rows)

-- the number of each profile, tier and level of a codec, the tables of them, and the numbers that absent texts stand for
pub record ProfileTables (P T L : Type 0) : Type 0 where
  pub profile_id : P → ℕ
  pub tier_flag : T → ℕ
  pub level_id : L → ℕ
  pub profiles : List (P × ℕ)
  pub tiers : List (T × ℕ)
  pub levels : List (L × ℕ)
  pub defaults : ℕ × ℕ × ℕ
