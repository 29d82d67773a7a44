-- What is kept of the distances given.
use Rattle.std.proofs.lemmas.List.FromFn.{length-range_with_len, get_or-range_with_len}
use Rattle.std.proofs.lemmas.List.Kept.{IsStrictlyIncreasing-filter}
use Rattle.std.proofs.lemmas.Map.Views.{list_any-from_Contains, Contains-from_any}
use Rattle.std.specs.List.Sorted.{IsStrictlyIncreasing}
use Rattle.str0m_formats.proofs.Common.{rules, ◌≡◌, ◌==◌, ◌↔◌, ◌⊎◌, inl, inr, ℕ, ◌+◌, ◌-◌, ◌<◌, ◌≤◌, Bool, true, false, ◌&&◌, cond, List}
use Rattle.str0m_formats.proofs.Common.{[], ◌∷◌, ◌++◌, filter, All, length, take, refl, sym, ◌∙◌, arith, Contains, list_any, range_with_len}
use Rattle.str0m_formats.proofs.Common.{or_cases, or_left, or_right, and_parts, eqb-true, eq-eqb, append-nil, take_more_set, All-filter}
use Rattle.str0m_formats.proofs.Common.{filter-append, add-one, set, nat_eq_equiv, and-false, and_from}
use Rattle.str0m_formats.proofs.format.ParamTextPrinted.{param_range_push}
use Rattle.str0m_formats.specs.row.RedDistances.{IsDistanceKept, AreDistancesKept, AreDistances, keeps_distance, distances_kept_to}

-- one number more
pub distances_kept_more : (given : List ℕ) (n : ℕ) → distances_kept_to (n + 1) given ≡ distances_kept_to n given
    ++ cond (keeps_distance given (n + 1)) ((n + 1) ∷ []) []
unfolding distances_kept_to
distances_kept_more given n = grind (
  arith,
  add-one,
  param_range_push 1 n,
  filter-append (keeps_distance given) (range_with_len 1 n) ((1 + n) ∷ []),
)

pub distances_kept_taken : (given levels : List ℕ) (n count : ℕ) → keeps_distance given (n + 1) ≡ true → count < length levels
    → take count levels ≡ distances_kept_to n given → take (count + 1) (set levels count (n + 1)) ≡ distances_kept_to (n + 1) given
distances_kept_taken given levels n count e l h = grind (arith, take_more_set, distances_kept_more)

pub distances_kept_skipped : (given levels : List ℕ) (n count : ℕ) → keeps_distance given (n + 1) ≡ false
    → take count levels ≡ distances_kept_to n given
    → take count levels ≡ distances_kept_to (n + 1) given
distances_kept_skipped given levels n count e h = grind (arith, distances_kept_more, append-nil)

pub distances_kept_none : (given : List ℕ) → distances_kept_to 0 given ≡ []
unfolding distances_kept_to
distances_kept_none given = refl

distances_increasing : (n : ℕ) → IsStrictlyIncreasing (range_with_len 1 n)
distances_increasing n k l = grind (arith, length-range_with_len, get_or-range_with_len)

red_distance_range_bounded : All (λ d. d ≤ 16) (range_with_len 1 16)
red_distance_range_bounded = search (rules, length-range_with_len, get_or-range_with_len)

pub kept_distances : (given : List ℕ) → AreDistances (distances_kept_to 16 given)
unfolding distances_kept_to
kept_distances given = record {
  first = (filter (keeps_distance given) (range_with_len 2 15), refl);
  increasing = IsStrictlyIncreasing-filter (keeps_distance given) (range_with_len 1 16) (distances_increasing 16);
  bounded = All-filter (keeps_distance given) (λ d. d ≤ 16) (range_with_len 1 16) red_distance_range_bounded;
}

-- ---- which numbers stand there

red_distance_any_filter : (p : ℕ → Bool) (d : ℕ) (xs : List ℕ) → list_any (λ x. d == x) (filter p xs) ≡ (p d && list_any (λ x. d == x) xs)
red_distance_any_filter p d [] = sym (and-false (p d))
red_distance_any_filter p d (x ∷ xs) = grind (arith, red_distance_any_filter p d xs, eqb-true)

contains_kept_distance : (p : ℕ → Bool) (d : ℕ) (xs : List ℕ) → Contains (filter p xs) d ↔ ((p d ≡ true) × Contains xs d)
contains_kept_distance p d xs = (
  λ c. let parts = and_parts (p d) (list_any (λ x. d == x) xs)
      (sym (red_distance_any_filter p d xs) ∙ list_any-from_Contains nat_eq_equiv d (filter p xs) c) in
      (parts.0, Contains-from_any (λ x y e. eqb-true x y e) d xs parts.1),
  λ c. Contains-from_any (λ x y e. eqb-true x y e) d (filter p xs)
      (red_distance_any_filter p d xs ∙ and_from (p d) (list_any (λ x. d == x) xs) c.0 (list_any-from_Contains nat_eq_equiv d xs c.1)),
)

red_distance_range_has : (d : ℕ) → 1 ≤ d → d ≤ 16 → Contains (range_with_len 1 16) d
red_distance_range_has d low high = (
  d - 1,
  omega (arith, length-range_with_len 1 16),
  get_or-range_with_len 1 16 (d - 1) d (omega arith)
      ∙ omega arith,
)

red_distance_of_range : (d : ℕ) → Contains (range_with_len 1 16) d → (1 ≤ d) × (d ≤ 16)
red_distance_of_range d c = search (rules, length-range_with_len, get_or-range_with_len)

-- a number that passes was given, or is 1
passed_distance_kept : (given : List ℕ) (d : ℕ) → keeps_distance given d ≡ true → (1 ≤ d) × (d ≤ 16) → IsDistanceKept given d
passed_distance_kept given d e r = go (or_cases (d == 1) (list_any (λ g. d == g) given) e) where
  go : ((d == 1) ≡ true) ⊎ (list_any (λ g. d == g) given ≡ true) → IsDistanceKept given d
  go (inl h) = inl (eqb-true d 1 h)
  go (inr h) = inr (Contains-from_any (λ x y i. eqb-true x y i) d given h, r.0, r.1)

kept_distance_passes : (given : List ℕ) (d : ℕ) → IsDistanceKept given d → (keeps_distance given d ≡ true) × (1 ≤ d) × (d ≤ 16)
kept_distance_passes given d (inl h) = (or_left (d == 1) (list_any (λ g. d == g) given) (eq-eqb d 1 h), omega arith, omega arith)
kept_distance_passes given d (inr h) = (
  or_right (d == 1) (list_any (λ g. d == g) given) (list_any-from_Contains nat_eq_equiv d given h.0),
  h.1,
  h.2,
)

pub are_distances_kept : (given : List ℕ) → AreDistancesKept given (distances_kept_to 16 given)
unfolding distances_kept_to
are_distances_kept given = record {
  each = λ d. (
    λ c. let k = (contains_kept_distance (keeps_distance given) d (range_with_len 1 16)).0 c in
        passed_distance_kept given d k.0 (red_distance_of_range d k.1),
    λ k. let p = kept_distance_passes given d k in
        (contains_kept_distance (keeps_distance given) d (range_with_len 1 16)).1 (p.0, red_distance_range_has d p.1 p.2),
  );
  increasing = IsStrictlyIncreasing-filter (keeps_distance given) (range_with_len 1 16) (distances_increasing 16);
}
