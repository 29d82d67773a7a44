-- What a whole first pass leaves, and a whole round.
use Rattle.str0m_formats.proofs.Common.{zero, suc, ◌≡◌, ℕ, ◌⊎◌, inl, inr, Bool, true, false, ◌||◌, cond, find, nat_lt, List, [], ◌∷◌, ◌++◌}
use Rattle.str0m_formats.proofs.Common.{length, Some, Result, Ok, Err, OnOk, IfErr, filter, refl, sym, ap, ◌∙◌, subst, arith, slice_get}
use Rattle.str0m_formats.proofs.Common.{slice_get_within, true≢false, false≢true, cases_Bool, or_cases, fun_ext}
use Rattle.str0m_formats.proofs.round.ClaimSteps.{claimed_all, claimed_twice}
use Rattle.str0m_formats.proofs.round.ClaimedTimes.{type_times-nil}
use Rattle.str0m_formats.proofs.round.FirstPass.{placed-locked, first_pass_placed-open}
use Rattle.str0m_formats.proofs.round.RoundsPasses.{pass_none_within}
use Rattle.str0m_formats.proofs.row.PayloadParamsSets.{row_types_has-append, locked_types-at, open_types-at}
use Rattle.str0m_formats.specs.declared.round.negotiation_error.NegotiationError.{NegotiationError}
use Rattle.str0m_formats.specs.declared.round.negotiation_error.NegotiationError.TheVariants.{TypeTooLarge}
use Rattle.str0m_formats.specs.declared.row.payload_params.PayloadParams.{PayloadParams}
use Rattle.str0m_formats.specs.round.Claimed.{TypeSet, has, AllTypesDistinct}
use Rattle.str0m_formats.specs.round.Claims.{claim_each}
use Rattle.str0m_formats.specs.round.Rounds.{types_taken_by, RoundBegun, RoundMayBegin, AllRoundsBegun, Settled, StopsSettling, RoundLeaves}
use Rattle.str0m_formats.specs.round.Rounds.{RoundRefused, too_large}
use Rattle.str0m_formats.specs.round.Rounds.{twice_before, in_second}
use Rattle.str0m_formats.specs.row.PayloadParams.{AllTypesSmall, types_of, types, locked_types, open_types}

-- no type stands in an empty list
types_distinct_nil : AllTypesDistinct []
types_distinct_nil = λ t. omega (arith, type_times-nil t)

-- the row before the round, at a place of the first pass
pub row_before : {A B : Type 0} (xs : List A) (ys : List B) (i : ℕ) (y : B) → length ys ≡ length xs → slice_get ys i ≡ Some y
    → (x : A) × (slice_get xs i ≡ Some x)
row_before {A} xs ys i y whole at_y = grind (arith, pass_none_within xs i, slice_get_within ys i y at_y)

-- an open row of the first pass is the row before the round
pub round_begun_open : (before remote : List PayloadParams) (receives : Bool) (mid : List PayloadParams) (i : ℕ) (row : PayloadParams)
    → RoundBegun before remote receives mid → length mid ≡ length before → slice_get mid i ≡ Some row → row.locked ≡ false
    → slice_get before i ≡ Some row
round_begun_open before remote receives mid i row begun whole at_row open_row =
    let old = row_before before mid i row whole at_row in
    let now = begun.each i old.0 row old.1 at_row in
    elim (cases_Bool old.0.locked) [
      | inl l ↦ absurd (true≢false (sym (placed-locked _ _ receives old.0 row now.choice now.placed_so l).0 ∙ open_row))
      | inr o ↦ elim (first_pass_placed-open _ _ receives old.0 row now.choice now.placed_so o) [
        | inl same ↦ old.1 ∙ ap (λ r. Some r) (sym same)
        | inr l ↦ absurd (true≢false (sym l ∙ open_row))
      ]
    ]

-- a row that was locked before keeps its types
pub begun_locked : (before remote : List PayloadParams) (receives : Bool) (mid : List PayloadParams) (i : ℕ) (old row : PayloadParams)
    → RoundBegun before remote receives mid → slice_get before i ≡ Some old → slice_get mid i ≡ Some row → old.locked ≡ true
    → (row.locked ≡ true) × (types_of row ≡ types_of old)
begun_locked before remote receives mid i old row begun at_old at_row l =
    let now = begun.each i old row at_old at_row in placed-locked _ _ receives old row now.choice now.placed_so l

-- the row that a type of the locked rows stands in
pub locked_types-from : (rows : List PayloadParams) (t : ℕ) → has (locked_types rows) t ≡ true
    → (i : ℕ) × (row : PayloadParams) × (slice_get rows i ≡ Some row) × (row.locked ≡ true) × (has (types_of row) t ≡ true)
locked_types-from [] t h = absurd (false≢true h)
locked_types-from (r ∷ rows) t h = go (locked_types-from rows t) r.locked refl h where
  go : (has (locked_types rows) t ≡ true → (i : ℕ) × (row : PayloadParams) × (slice_get rows i ≡ Some row) × (row.locked ≡ true)
      × (has (types_of row) t ≡ true))
      → (b : Bool) → r.locked ≡ b → has (types (cond b (r ∷ filter (λ x. x.locked) rows) (filter (λ x. x.locked) rows))) t ≡ true
      → (i : ℕ) × (row : PayloadParams) × (slice_get (r ∷ rows) i ≡ Some row) × (row.locked ≡ true) × (has (types_of row) t ≡ true)
  go rec false e k = let found = rec k in (suc found.0, found.1, found.2, found.3, found.4)
  go rec true e k = cases (or_cases (has (types_of r) t) (has (locked_types rows) t)
      (sym (ap (λ f. f t) (row_types_has-append (types_of r) (locked_types rows))) ∙ k)) where
        cases : (has (types_of r) t ≡ true) ⊎ (has (locked_types rows) t ≡ true)
            → (i : ℕ) × (row : PayloadParams) × (slice_get (r ∷ rows) i ≡ Some row) × (row.locked ≡ true) × (has (types_of row) t ≡ true)
        cases (inl here) = (zero, r, refl, e, here)
        cases (inr later) = let found = rec later in (suc found.0, found.1, found.2, found.3, found.4)

-- after the whole first pass the types taken are those of the rows that are locked then
pub taken_whole : (before remote : List PayloadParams) (receives : Bool) (mid : List PayloadParams) → RoundBegun before remote receives mid
    → length mid ≡ length before → types_taken_by before mid ≡ has (locked_types mid)
taken_whole before remote receives mid begun whole = row_types_has-append (locked_types before) (locked_types mid)
    ∙ fun_ext (λ t. go t (has (locked_types before) t) refl) where
      covered : (t : ℕ) → has (locked_types before) t ≡ true → has (locked_types mid) t ≡ true
      covered t h =
          let found = locked_types-from before t h in
          let new = row_before mid before found.0 found.1 (sym whole) found.2 in
          let kept = begun_locked before remote receives mid found.0 found.1 new.0 begun found.2 new.1 found.3 in
          locked_types-at mid found.0 new.0 t new.1 kept.0 (ap (λ ts. has ts t) kept.1 ∙ found.4)

      go : (t : ℕ) (b : Bool) → has (locked_types before) t ≡ b → (has (locked_types before) t || has (locked_types mid) t)
          ≡ has (locked_types mid) t
      go t true e = ap (λ x. x || has (locked_types mid) t) e ∙ sym (covered t e)
      go t false e = ap (λ x. x || has (locked_types mid) t) e

-- the types of rows that are open after the first pass were open before the round
pub round_open_before : (before remote : List PayloadParams) (receives : Bool) (mid : List PayloadParams) (unlocked : TypeSet)
    → RoundBegun before remote receives mid → length mid ≡ length before → unlocked ≡ has (open_types before)
    → (i : ℕ) (row : PayloadParams) → slice_get mid i ≡ Some row → row.locked ≡ false → (t : ℕ) → has (types_of row) t ≡ true
    → unlocked t ≡ true
round_open_before before remote receives mid unlocked begun whole same =
    grind (arith, open_types-at before, round_begun_open before remote receives mid)

pub round_may_begin : (before remote : List PayloadParams) (set : TypeSet) → AllTypesSmall (types before ++ types remote)
    → claim_each (has []) (locked_types before) ≡ Ok set → RoundMayBegin before remote
round_may_begin before remote set small h = record {
  small = small;
  once = (claimed_all [] (locked_types before) set types_distinct_nil h).1;
}

pub claimed_is_locked : (before : List PayloadParams) (set : TypeSet) → claim_each (has []) (locked_types before) ≡ Ok set
    → set ≡ has (locked_types before)
claimed_is_locked before set h = (claimed_all [] (locked_types before) set types_distinct_nil h).0

pub round_refused_before : (before remote : List PayloadParams) (receives : Bool) (cause : NegotiationError)
    → AllTypesSmall (types before ++ types remote) → claim_each (has []) (locked_types before) ≡ Err cause
    → RoundRefused before remote receives cause
round_refused_before before remote receives cause small h = grind (arith, claimed_twice, types_distinct_nil, twice_before)

pub round_refused_large : (before remote : List PayloadParams) (receives : Bool) (cause : NegotiationError)
    → (t : ℕ) × (find (nat_lt 127) (types before ++ types remote) ≡ Some t) × (cause ≡ TypeTooLarge t)
    → RoundRefused before remote receives cause
round_refused_large before remote receives cause h = grind (arith, too_large)

all_rounds_begun : (before remote : List PayloadParams) (receives claims_receive : Bool) (mid : List PayloadParams) (set : TypeSet)
    → AllTypesSmall (types before ++ types remote) → claim_each (has []) (locked_types before) ≡ Ok set → claims_receive ≡ receives
    → RoundBegun before remote claims_receive mid → length mid ≡ length before → AllRoundsBegun before remote receives mid
all_rounds_begun before remote receives claims_receive mid set small h r begun whole = grind
    (arith, round_may_begin before remote set small h)

pub round_done : (before remote : List PayloadParams) (receives claims_receive : Bool) (mid after : List PayloadParams)
    (set unlocked : TypeSet) (result : Result (Unit {0}) NegotiationError)
    → AllTypesSmall (types before ++ types remote) → claim_each (has []) (locked_types before) ≡ Ok set → claims_receive ≡ receives
    → RoundBegun before remote claims_receive mid → length mid ≡ length before → unlocked ≡ has (open_types before)
    → OnOk result (Settled unlocked mid after) → length after ≡ length mid → IfErr result (StopsSettling unlocked mid)
    → OnOk result (RoundLeaves before remote receives after) × IfErr result (RoundRefused before remote receives)
round_done before remote receives claims_receive mid after set unlocked result small h r begun whole u = go result where
  first : AllRoundsBegun before remote receives mid
  first = all_rounds_begun before remote receives claims_receive mid set small h r begun whole

  go : (result : Result (Unit {0}) NegotiationError) → OnOk result (Settled unlocked mid after) → length after ≡ length mid
      → IfErr result (StopsSettling unlocked mid) → OnOk result (RoundLeaves before remote receives after)
      × IfErr result (RoundRefused before remote receives)
  go (Ok x) s l e = (record { mid = mid; first = first; second = subst (λ (un : TypeSet). Settled un mid after) u s; whole = l }, tt)
  go (Err c) s l e = (tt, in_second c (record { mid = mid; first = first; second = subst (λ (un : TypeSet). StopsSettling un mid c) u e }))

-- what refuses a copy of the rows refuses the rows
pub round_refused_as_copied : (before copied now remote : List PayloadParams) (receives now_receives : Bool) (cause : NegotiationError)
    → now ≡ copied → copied ≡ before → now_receives ≡ receives → RoundRefused now remote now_receives cause
    → RoundRefused before remote receives cause
round_refused_as_copied before copied now remote receives now_receives cause same_now same_copy same_receives refused = grind arith
