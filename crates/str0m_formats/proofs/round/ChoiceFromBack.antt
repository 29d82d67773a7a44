-- How the last of greatest score goes on by one row that stands before the others.
use Rattle.str0m_formats.proofs.Common.{◌≡◌, ◌≢◌, length, ℕ, ◌≤◌, ◌<◌, Bool, true, false, List, [], ◌∷◌, ◌++◌, Option, Some, None, IfSome}
use Rattle.str0m_formats.proofs.Common.{All, refl}
use Rattle.str0m_formats.proofs.Common.{sym, ap, ◌∙◌, subst, arith, All-cons, All-nil, All-weaker, nat_le, if◌then◌else◌, leb-true}
use Rattle.str0m_formats.proofs.Common.{leb-false, IfSome_then}
use Rattle.str0m_formats.proofs.Common.{MatchOption-from_none}
use Rattle.str0m_formats.proofs.round.ChoiceSteps.{IsChoiceSoFar, choice_at_most_so_far}
use Rattle.str0m_formats.specs.declared.row.payload_params.PayloadParams.{PayloadParams}
use Rattle.str0m_formats.specs.round.Choices.{IsBestChoice, earlier_row}

-- no row has so much
abbrev pub AllBelow : (PayloadParams → Option ℕ) → ℕ → List PayloadParams → Type 0
AllBelow points n rows = All (λ row. IfSome (points row) (λ k. k < n)) rows

none_below : (points : PayloadParams → Option ℕ) (rows : List PayloadParams) (n : ℕ) → All (λ r. points r ≡ None) rows
    → AllBelow points n rows
none_below points rows n c = grind arith

-- a row goes before those that have less
goes_in_front : (points : PayloadParams → Option ℕ) (rows : List PayloadParams) (n : ℕ) (row : PayloadParams) → points row ≡ Some n
    → AllBelow points n rows → IsChoiceSoFar points (row ∷ rows) (Some (row, n))
goes_in_front points rows n row h below = (
  record {
    before = [];
    after = rows;
    most = n;
    split = refl;
    has_most = h;
    before_at_most = All-nil (λ r. IfSome (points r) (λ k. k ≤ n));
    after_below = below;
  },
  refl,
)

-- the best row stays where one in front of it has no more
stays_behind : (points : PayloadParams → Option ℕ) (rows : List PayloadParams) (best row : PayloadParams)
    (it : IsBestChoice points rows best)
    → IfSome (points row) (λ n. n ≤ it.most) → (new : IsBestChoice points (row ∷ rows) best) × (new.most ≡ it.most)
stays_behind points rows best row it h = (
  record {
    before = row ∷ it.before;
    after = it.after;
    most = it.most;
    split = ap (λ xs. row ∷ xs) it.split;
    has_most = it.has_most;
    before_at_most = All-cons (λ r. IfSome (points r) (λ n. n ≤ it.most)) row it.before h it.before_at_most;
    after_below = it.after_below;
  },
  refl,
)

passes : (o : Option ℕ) (P : ℕ → Type 0) (n : ℕ) → o ≡ Some n → P n → IfSome o P
passes o P n h p = let Q : Option ℕ → Type 0 = λ v. IfSome v P in subst Q (sym h) p

-- all have less than n where the most that one has is less
best_below : (points : PayloadParams → Option ℕ) (rows : List PayloadParams) (best : PayloadParams) (n : ℕ)
    (it : IsBestChoice points rows best) → it.most < n → AllBelow points n rows
best_below points rows best n it lt =
    All-weaker (λ r. IfSome (points r) (λ k. k ≤ it.most)) (λ r. IfSome (points r) (λ k. k < n))
    (λ r p. IfSome_then (points r) {P = λ k. k ≤ it.most} {Q = λ k. k < n} p (λ k le. omega (arith, le, lt))) rows
    (choice_at_most_so_far points rows best it.most it (omega arith))

-- one row more in front of those that were seen
pub choice_in_front : (points : PayloadParams → Option ℕ) (rows : List PayloadParams) (so_far : Option (PayloadParams × ℕ))
    (row : PayloadParams) (o : Option ℕ) → points row ≡ o
    → IsChoiceSoFar points rows so_far → IsChoiceSoFar points (row ∷ rows) (earlier_row so_far row o)
choice_in_front points rows None row None e c = All-cons (λ r. points r ≡ None) row rows e c
choice_in_front points rows None row (Some n) e c = goes_in_front points rows n row e (none_below points rows n c)
choice_in_front points rows (Some (best, most)) row None e c =
    let new = stays_behind points rows best row c.0 (MatchOption-from_none (points row) (λ n. n ≤ c.0.most) e) in (new.0, new.1 ∙ c.1)
choice_in_front points rows (Some (best, most)) row (Some n) e c = go (nat_le n most) refl where
  go : (b : Bool) → nat_le n most ≡ b → IsChoiceSoFar points (row ∷ rows) (if b then Some (best, most) else Some (row, n))
  go true l =
      let new = stays_behind points rows best row c.0
      (passes (points row) (λ k. k ≤ c.0.most) n e (omega (arith, c.1, leb-true n most l))) in
      (new.0, new.1 ∙ c.1)
  go false l = goes_in_front points rows n row e (best_below points rows best n c.0 (omega (arith, c.1, leb-false n most l)))

-- where it fits in full, it is the choice: those behind it have less, and none has more
pub full_is_choice : (points : PayloadParams → Option ℕ) (front seen : List PayloadParams) (row : PayloadParams) (full : ℕ)
    → points row ≡ Some full → All (λ r. IfSome (points r) (λ k. k ≤ full)) front → AllBelow points full seen
    → IsBestChoice points (front ++ row ∷ seen) row
full_is_choice points front seen row full h front_at_most below = record {
  before = front;
  after = seen;
  most = full;
  split = refl;
  has_most = h;
  before_at_most = front_at_most;
  after_below = below;
}

-- what doesn't fit in full has less
pub less_than_full : (o : Option ℕ) → IfSome o (λ n. n ≤ 100) → o ≢ Some 100 → IfSome o (λ n. n < 100)
less_than_full None h other = tt
less_than_full (Some n) h other = let ne : n ≢ 100 = λ e. other (ap (λ (k : ℕ). Some k) e) in omega (arith, h, ne)

-- once there is no row in front, all were seen
pub all_were_seen : (rows rest seen : List PayloadParams) → rows ≡ rest ++ seen → length rest ≡ 0 → rows ≡ seen
all_were_seen rows [] seen e none = e
all_were_seen rows (x ∷ xs) seen e none = absurd (omega (arith, none))
