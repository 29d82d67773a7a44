-- How the last of greatest score goes on by one row.
use Rattle.str0m_formats.proofs.Common.{◌≡◌, ℕ, ◌≤◌, ◌<◌, Bool, true, false, List, [], ◌∷◌, ◌++◌, Option, Some, None, IfSome, All, refl}
use Rattle.str0m_formats.proofs.Common.{sym, ap, ◌∙◌, subst, get_or, take, length, ◌+◌, arith, ltb-true, All-append, All-push, All-cons}
use Rattle.str0m_formats.proofs.Common.{All-nil, All-weaker, append_assoc, take_more, nat_lt, if◌then◌else◌, ltb-false, IfSome_then}
use Rattle.str0m_formats.proofs.Common.{MatchOption-from_none}
use Rattle.str0m_formats.specs.declared.row.payload_params.PayloadParams.{PayloadParams}
use Rattle.str0m_formats.specs.round.Choices.{IsBestChoice, better_row}

-- the choice so far, with its score
abbrev pub IsChoiceSoFar : (PayloadParams → Option ℕ) → List PayloadParams → Option (PayloadParams × ℕ) → Type 0
IsChoiceSoFar points rows None = All (λ row. points row ≡ None) rows
IsChoiceSoFar points rows (Some (best, most)) = (it : IsBestChoice points rows best) × (it.most ≡ most)

some_choice_passes : (o : Option ℕ) (P : ℕ → Type 0) (n : ℕ) → o ≡ Some n → P n → IfSome o P
some_choice_passes o P n h p = let Q : Option ℕ → Type 0 = λ v. IfSome v P in subst Q (sym h) p

-- the best row of a list stays the best once a row of lower score, or of none, comes after it
best_choice_stays : (points : PayloadParams → Option ℕ) (rows : List PayloadParams) (best row : PayloadParams)
    (it : IsBestChoice points rows best)
    → IfSome (points row) (λ n. n < it.most) → (new : IsBestChoice points (rows ++ row ∷ []) best) × (new.most ≡ it.most)
best_choice_stays points rows best row it h = (
  record {
    before = it.before;
    after = it.after ++ row ∷ [];
    most = it.most;
    split = ap (λ xs. xs ++ row ∷ []) it.split ∙ append_assoc it.before (best ∷ it.after) (row ∷ []);
    has_most = it.has_most;
    before_at_most = it.before_at_most;
    after_below = All-push (λ r. IfSome (points r) (λ n. n < it.most)) it.after row it.after_below h;
  },
  refl,
)

-- a row is the choice where no row before it has a greater score
choice_goes_last : (points : PayloadParams → Option ℕ) (rows : List PayloadParams) (n : ℕ) (row : PayloadParams) → points row ≡ Some n
    → All (λ r. IfSome (points r) (λ k. k ≤ n)) rows → IsChoiceSoFar points (rows ++ row ∷ []) (Some (row, n))
choice_goes_last points rows n row h at_most = (
  record {
    before = rows;
    after = [];
    most = n;
    split = refl;
    has_most = h;
    before_at_most = at_most;
    after_below = All-nil (λ r. IfSome (points r) (λ k. k < n));
  },
  refl,
)

no_choice_so_far : (points : PayloadParams → Option ℕ) (rows : List PayloadParams) (n : ℕ) → All (λ r. points r ≡ None) rows
    → All (λ r. IfSome (points r) (λ k. k ≤ n)) rows
no_choice_so_far points rows n c = grind arith

-- no row so far has a greater score
pub choice_at_most_so_far : (points : PayloadParams → Option ℕ) (rows : List PayloadParams) (best : PayloadParams) (n : ℕ)
    (it : IsBestChoice points rows best)
    → it.most ≤ n → All (λ r. IfSome (points r) (λ k. k ≤ n)) rows
choice_at_most_so_far points rows best n it m =
    let P : List PayloadParams → Type 0 = λ xs. All (λ r. IfSome (points r) (λ k. k ≤ n)) xs in
    subst P (sym it.split)
    (All-append (λ r. IfSome (points r) (λ k. k ≤ n)) it.before (best ∷ it.after)
    (All-weaker (λ r. IfSome (points r) (λ k. k ≤ it.most)) (λ r. IfSome (points r) (λ k. k ≤ n))
    (λ r p. IfSome_then (points r) {P = λ k. k ≤ it.most} {Q = λ k. k ≤ n} p (λ k le. omega (arith, le, m))) it.before
    it.before_at_most)
    (All-cons (λ r. IfSome (points r) (λ k. k ≤ n)) best it.after (some_choice_passes (points best) (λ k. k ≤ n) it.most it.has_most m)
    (All-weaker (λ r. IfSome (points r) (λ k. k < it.most)) (λ r. IfSome (points r) (λ k. k ≤ n))
    (λ r p. IfSome_then (points r) {P = λ k. k < it.most} {Q = λ k. k ≤ n} p (λ k lt. omega (arith, lt, m))) it.after it.after_below)))

-- one row more
choice_step : (points : PayloadParams → Option ℕ) (rows : List PayloadParams) (so_far : Option (PayloadParams × ℕ)) (row : PayloadParams)
    (o : Option ℕ) → points row ≡ o
    → IsChoiceSoFar points rows so_far → IsChoiceSoFar points (rows ++ row ∷ []) (better_row so_far row o)
choice_step points rows None row None e c = All-push (λ r. points r ≡ None) rows row c e
choice_step points rows None row (Some n) e c = choice_goes_last points rows n row e (no_choice_so_far points rows n c)
choice_step points rows (Some (best, most)) row None e c =
    let new = best_choice_stays points rows best row c.0 (MatchOption-from_none (points row) (λ n. n < c.0.most) e) in (new.0, new.1 ∙ c.1)
choice_step points rows (Some (best, most)) row (Some n) e c = go (nat_lt n most) refl where
  go : (b : Bool) → nat_lt n most ≡ b → IsChoiceSoFar points (rows ++ row ∷ []) (if b then Some (best, most) else Some (row, n))
  go true l =
      let less : n < most = ltb-true n most l in
      let new = best_choice_stays points rows best row c.0
      (some_choice_passes (points row) (λ k. k < c.0.most) n e (omega (arith, c.1, less))) in
      (new.0, new.1 ∙ c.1)
  go false l =
      let least : most ≤ n = ltb-false n most l in
      choice_goes_last points rows n row e (choice_at_most_so_far points rows best n c.0 (omega (arith, c.1, least)))

-- one row further in the list that is gone over
pub choice_next : (points : PayloadParams → Option ℕ) (rows : List PayloadParams) (i : ℕ) (row : PayloadParams) (o : Option ℕ)
    (so_far new : Option (PayloadParams × ℕ))
    → i < length rows → row ≡ get_or rows i row → points row ≡ o → new ≡ better_row so_far row o
    → IsChoiceSoFar points (take i rows) so_far → IsChoiceSoFar points (take (i + 1) rows) new
choice_next points rows i row o so_far new h e is n c = grind (arith, take_more, choice_step)
