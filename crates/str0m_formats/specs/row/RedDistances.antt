-- How far back the redundant levels of RED reach (RFC 2198, section 3).
use Rattle.std.specs.List.{list_any, range_with_len}
use Rattle.std.specs.List.Sorted.{IsStrictlyIncreasing}
use Rattle.std.specs.Prelude.{◌≡◌, ◌==◌, ◌↔◌, ◌⊎◌, ◌≤◌, ℕ, Bool, ◌||◌, List, ◌∷◌, filter, All, Contains}

-- a distance is kept: it is 1, or it was given and is 1 to 16
abbrev pub IsDistanceKept : List ℕ → ℕ → Type 0
IsDistanceKept given d = (d ≡ 1) ⊎ (Contains given d × (1 ≤ d) × (d ≤ 16))

-- what is kept of the distances given, each once and from the least to the greatest
pub record AreDistancesKept (given kept : List ℕ) : Type 0 where
  pub each : (d : ℕ) → Contains kept d ↔ IsDistanceKept given d
  pub increasing : IsStrictlyIncreasing kept

-- distances: 1 first, each greater than the one before, none above 16
pub record AreDistances (distances : List ℕ) : Type 0 where
  pub first : (rest : List ℕ) × (distances ≡ 1 ∷ rest)
  pub increasing : IsStrictlyIncreasing distances
  pub bounded : All (λ d. d ≤ 16) distances

-- the test of what is kept, and the kept ones of 1 to n
abbrev pub keeps_distance : List ℕ → ℕ → Bool
keeps_distance given d = d == 1 || list_any (λ g. d == g) given

unfoldable pub distances_kept_to : ℕ → List ℕ → List ℕ
distances_kept_to n given = filter (keeps_distance given) (range_with_len 1 n)
