-- The names of what is added to a session (RFC 5888, section 4; RFC 8829, section 5.2.1): numbers that name no section of it.
use Rattle.exchange.specs.Prelude.{is_group_listed}
use Rattle.std.specs.Prelude.{◌≡◌, ◌≤◌, ◌<◌, ◌+◌, ◌^◌, ℕ, Bool, true, false, List, [], ◌∷◌, Some, decimal, length}

-- whether the number is one of these names
abbrev pub is_name_number_taken : List (List ℕ) → ℕ → Bool
is_name_number_taken names n = is_group_listed names (Some (decimal n))

-- the least number of 32 bits that is none, from one on
pub record IsNextFreshNumber (names : List (List ℕ)) (from n : ℕ) : Type 0 where
  pub behind : from ≤ n
  pub bounded : n < 2 ^ 32
  pub free : is_name_number_taken names n ≡ false
  pub least : (k : ℕ) → from ≤ k → k < n → is_name_number_taken names k ≡ true

-- there is none
abbrev pub AreAllNameNumbersTaken : List (List ℕ) → ℕ → Type 0
AreAllNameNumbersTaken names from = (k : ℕ) → from ≤ k → k < 2 ^ 32 → is_name_number_taken names k ≡ true

-- the next free numbers, from one to another
abbrev pub AreFresh : List (List ℕ) → ℕ → List (List ℕ) → ℕ → Type 0
AreFresh names from [] to = from ≡ to
AreFresh names from (name ∷ more) to = (n : ℕ) × (name ≡ decimal n) × IsNextFreshNumber names from n × AreFresh names (n + 1) more to

-- there are fewer than so many
pub record AreFreshNamesTooFew (names : List (List ℕ)) (count : ℕ) : Type 0 where
  pub fresh : List (List ℕ)
  pub to : ℕ
  pub are_fresh : AreFresh names 0 fresh to
  pub fewer : length fresh < count
  pub none_left : AreAllNameNumbersTaken names to
