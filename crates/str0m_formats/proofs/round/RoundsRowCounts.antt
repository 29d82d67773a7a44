-- How often a type stands among the rows that pass a test, as the rows are gone over one by one.
use Rattle.str0m_formats.proofs.Common.{rules, zero, suc, ◌≡◌, ℕ, ◌+◌, ◌≤◌, Bool, true, false, not, cond, List, [], ◌∷◌, ◌++◌, length, take}
use Rattle.str0m_formats.proofs.Common.{drop, Some, filter, refl, ap, ◌∙◌, arith, slice_get, same_Some, none-some, length-append}
use Rattle.str0m_formats.proofs.round.ClaimedTimes.{type_times-append, type_times-nil}
use Rattle.str0m_formats.proofs.round.RoundsPasses.{pass_take_suc}
use Rattle.str0m_formats.proofs.row.PayloadParamsSets.{types_where-push}
use Rattle.str0m_formats.specs.declared.row.payload_params.PayloadParams.{PayloadParams}
use Rattle.str0m_formats.specs.round.Claimed.{type_times}
use Rattle.str0m_formats.specs.row.PayloadParams.{types_of, types, locked_types, open_types}

pub rows_drop_suc : {A : Type 0} (xs : List A) (i : ℕ) (x : A) → slice_get xs i ≡ Some x → drop i xs ≡ x ∷ drop (suc i) xs
rows_drop_suc [] i x e = absurd (cc)
rows_drop_suc (y ∷ xs) zero x e = ap (λ z. z ∷ xs) (same_Some y x e)
rows_drop_suc (y ∷ xs) (suc i) x e = rows_drop_suc xs i x e

-- with one row more, first or last
pub round_times_where-cons : (test : PayloadParams → Bool) (row : PayloadParams) (rows : List PayloadParams) (t : ℕ)
    → type_times (types (filter test (row ∷ rows))) t ≡ type_times (cond (test row) (types_of row) []) t
    + type_times (types (filter test rows)) t
round_times_where-cons test row rows t = grind (arith, type_times-append (types_of row) (types (filter test rows)) t, type_times-nil t)

pub round_times_where-push : (test : PayloadParams → Bool) (rows : List PayloadParams) (row : PayloadParams) (t : ℕ)
    → type_times (types (filter test (rows ++ row ∷ []))) t ≡ type_times (types (filter test rows)) t
    + type_times (cond (test row) (types_of row) []) t
round_times_where-push test rows row t = search (rules, types_where-push, type_times-append)

-- the rows from a place on have no more
pub round_times_where-drop : (test : PayloadParams → Bool) (rows : List PayloadParams) (i t : ℕ)
    → type_times (types (filter test (drop i rows))) t ≤ type_times (types (filter test rows)) t
round_times_where-drop test rows zero t = omega arith
round_times_where-drop test [] (suc i) t = omega arith
round_times_where-drop test (r ∷ rows) (suc i) t = omega (arith, round_times_where-drop test rows i t, round_times_where-cons test r rows t)

-- among the rows done and the rows to come
abbrev pub RoundStandingTimes : (PayloadParams → Bool) → List PayloadParams → List PayloadParams → ℕ → ℕ → ℕ
RoundStandingTimes test rows done i t = type_times (types (filter test (take i done))) t + type_times (types (filter test (drop i rows))) t

-- what stands changes by the one row
pub round_standing_step : (test : PayloadParams → Bool) (rows done : List PayloadParams) (i t : ℕ) (old new : PayloadParams)
    → slice_get rows i ≡ Some old → slice_get done i ≡ Some new
    → RoundStandingTimes test rows done (suc i) t + type_times (cond (test old) (types_of old) []) t ≡ RoundStandingTimes test rows done i t
    + type_times (cond (test new) (types_of new) []) t
round_standing_step test rows done i t old new at_old at_new =
    let front : type_times (types (filter test (take (suc i) done))) t ≡ type_times (types (filter test (take i done))) t
    + type_times (cond (test new) (types_of new) []) t =
    ap (λ xs. type_times (types (filter test xs)) t) (pass_take_suc done i new at_new) ∙ round_times_where-push test (take i done) new t in
    let back : type_times (types (filter test (drop i rows))) t ≡ type_times (cond (test old) (types_of old) []) t
    + type_times (types (filter test (drop (suc i) rows))) t =
    ap (λ xs. type_times (types (filter test xs)) t) (rows_drop_suc rows i old at_old)
    ∙ round_times_where-cons test old (drop (suc i) rows) t in
    omega (arith, front, back)

-- a list whose passing rows stand in another at their places has no more
pub round_times_where-fewer : (test : PayloadParams → Bool) (rows fewer : List PayloadParams) (t : ℕ)
    → ((i : ℕ) (row : PayloadParams) → slice_get fewer i ≡ Some row → test row ≡ true → slice_get rows i ≡ Some row)
    → type_times (types (filter test fewer)) t ≤ type_times (types (filter test rows)) t
round_times_where-fewer test rows [] t h = omega (arith, type_times-nil t)
round_times_where-fewer test [] (f ∷ fewer) t h = go
    (round_times_where-fewer test [] fewer t (λ i row e p. absurd (none-some row (h (suc i) row e p))))
    (test f) refl where
      go : type_times (types (filter test fewer)) t ≤ type_times (types (filter test [])) t → (b : Bool) → test f ≡ b
          → type_times (types (filter test (f ∷ fewer))) t ≤ type_times (types (filter test [])) t
      go rec true e = absurd (none-some f (h zero f refl e))
      go rec false e = let skipped = ap (λ b. type_times (cond b (types_of f) []) t) e in
          omega (arith, rec, round_times_where-cons test f fewer t, skipped, type_times-nil t)
round_times_where-fewer test (r ∷ rows) (f ∷ fewer) t h = go (round_times_where-fewer test rows fewer t (λ i row e p. h (suc i) row e p))
    (test f) refl
  where
    go : type_times (types (filter test fewer)) t ≤ type_times (types (filter test rows)) t → (b : Bool) → test f ≡ b
        → type_times (types (filter test (f ∷ fewer))) t ≤ type_times (types (filter test (r ∷ rows))) t
    go rec true e =
        let same = ap (λ x. type_times (cond (test x) (types_of x) []) t) (same_Some r f (h zero f refl e)) in
        omega (arith, rec, round_times_where-cons test f fewer t, round_times_where-cons test r rows t, same)
    go rec false e = let skipped = ap (λ b. type_times (cond b (types_of f) []) t) e in
        omega (arith, rec, round_times_where-cons test f fewer t, round_times_where-cons test r rows t, skipped, type_times-nil t)

-- what adds up over lists of types adds up over the locked rows and the open ones
rows_split : (measure : List ℕ → ℕ) → measure [] ≡ 0 → ((xs ys : List ℕ) → measure (xs ++ ys) ≡ measure xs + measure ys)
    → (rows : List PayloadParams) → measure (types rows) ≡ measure (locked_types rows) + measure (open_types rows)
rows_split measure none joined [] = omega (arith, none)
rows_split measure none joined (r ∷ rows) = go r.locked (rows_split measure none joined rows) where
  go : (b : Bool) → measure (types rows) ≡ measure (locked_types rows) + measure (open_types rows)
      → measure (types (r ∷ rows)) ≡ measure (types (cond b (r ∷ filter (λ x. x.locked) rows) (filter (λ x. x.locked) rows)))
      + measure (types (cond (not b) (r ∷ filter (λ x. not x.locked) rows) (filter (λ x. not x.locked) rows)))
  go true rec = omega (arith, rec, joined (types_of r) (types rows), joined (types_of r) (locked_types rows))
  go false rec = omega (arith, rec, joined (types_of r) (types rows), joined (types_of r) (open_types rows))

pub round_types_length-split : (rows : List PayloadParams) → length (types rows) ≡ length (locked_types rows) + length (open_types rows)
round_types_length-split = rows_split (λ ts. length ts) refl (λ xs ys. length-append xs ys)

pub type_times-split : (rows : List PayloadParams) (t : ℕ) → type_times (types rows) t ≡ type_times (locked_types rows) t
    + type_times (open_types rows) t
type_times-split rows t = rows_split (λ ts. type_times ts t) refl (λ xs ys. type_times-append xs ys t) rows
