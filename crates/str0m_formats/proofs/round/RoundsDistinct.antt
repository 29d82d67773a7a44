-- Distinct types stay distinct.
use Rattle.str0m_formats.proofs.Common.{rules, zero, suc, ◌≡◌, ℕ, ◌+◌, ◌<◌, ◌≤◌, ◌⊎◌, inl, inr, Bool, true, false, not, cond, List, []}
use Rattle.str0m_formats.proofs.Common.{◌++◌, length, take, drop, Option, Some, None, refl, ap, ◌∙◌, arith, slice_get, cases_Bool, or_parts}
use Rattle.str0m_formats.proofs.Common.{not-true, take_all}
use Rattle.str0m_formats.proofs.round.ClaimedTimes.{type_times-append, type_times-nil, type_times-none}
use Rattle.str0m_formats.proofs.round.RoundsInvariants.{locked_alone}
use Rattle.str0m_formats.proofs.round.RoundsPasses.{pass_none_within}
use Rattle.str0m_formats.proofs.round.RoundsRowCounts.{rows_drop_suc, round_times_where-cons, round_times_where-drop}
use Rattle.str0m_formats.proofs.round.RoundsRowCounts.{round_times_where-fewer}
use Rattle.str0m_formats.proofs.round.RoundsRowCounts.{type_times-split}
use Rattle.str0m_formats.proofs.round.RoundsRowCounts.{RoundStandingTimes, round_standing_step}
use Rattle.str0m_formats.proofs.round.RoundsWhole.{row_before, round_begun_open}
use Rattle.str0m_formats.proofs.round.SettlingPass.{settled-locked, SettledParts, settled_parts, settled-same}
use Rattle.str0m_formats.proofs.round.SettlingRows.{settled_row-held, settled_row-once}
use Rattle.str0m_formats.specs.declared.row.payload_params.PayloadParams.{PayloadParams}
use Rattle.str0m_formats.specs.round.Claimed.{has, either_set, type_times, AllTypesDistinct}
use Rattle.str0m_formats.specs.round.Rounds.{types_taken_after, AllRoundsBegun, Settled, RoundLeaves}
use Rattle.str0m_formats.specs.row.PayloadParams.{types_of, types, locked_types, open_types}

abbrev distinct_is_open : PayloadParams → Bool
distinct_is_open row = not row.locked

-- after the first pass a type stands among the open rows no more often than before it
round_distinct_mid : (before remote : List PayloadParams) (receives : Bool) (mid : List PayloadParams)
    → AllRoundsBegun before remote receives mid
    → (t : ℕ)
    → type_times (open_types mid) t ≤ type_times (open_types before) t
round_distinct_mid before remote receives mid m t = search (rules, round_times_where-fewer, round_begun_open, not-true)

-- a row at a place, and the rows after it
round_distinct_times : (rows : List PayloadParams) (i t : ℕ) (row : PayloadParams) → slice_get rows i ≡ Some row → row.locked ≡ false
    → type_times (types_of row) t + type_times (open_types (drop (suc i) rows)) t ≤ type_times (open_types rows) t
round_distinct_times rows i t row at_row l =
    grind (
      arith,
      rows_drop_suc rows i row at_row,
      round_times_where-cons distinct_is_open row (drop (suc i) rows) t,
      round_times_where-drop distinct_is_open rows i t,
    )

module _ (before remote : List PayloadParams) (receives : Bool) (mid after : List PayloadParams)
    (m : AllRoundsBegun before remote receives mid)
    (second : Settled (has (open_types before)) mid after) (t : ℕ) where
  -- where an open row is settled
  distinct_open_step : (i : ℕ) (row new : PayloadParams) → slice_get mid i ≡ Some row → slice_get after i ≡ Some new → row.locked ≡ false
      → RoundStandingTimes distinct_is_open mid after i t ≤ 1 → RoundStandingTimes distinct_is_open mid after (suc i) t ≤ 1
  distinct_open_step i row new at_row at_new l rec = go
      (cases_Bool (either_set (types_taken_after mid (take i after)) (has (open_types before)) t)) where
        parts : SettledParts (has (locked_types mid)) (types_taken_after mid (take i after)) (has (open_types before)) row new
        parts = settled_parts _ _ _ row new (second.each i row new at_row at_new) l

        changed : RoundStandingTimes distinct_is_open mid after (suc i) t + type_times (types_of row) t
            ≡ RoundStandingTimes distinct_is_open mid after i t + type_times (types_of new) t
        changed =
            let old_open = ap (λ b. type_times (cond (not b) (types_of row) []) t) l in
            let new_open = ap (λ b. type_times (cond (not b) (types_of new) []) t)
            (settled-locked _ _ _ row new (second.each i row new at_row at_new) ∙ l) in
            omega (arith, round_standing_step distinct_is_open mid after i t row new at_row at_new, old_open, new_open)

        go : (either_set (types_taken_after mid (take i after)) (has (open_types before)) t ≡ true) ⊎
            (either_set (types_taken_after mid (take i after)) (has (open_types before)) t ≡ false)
            → RoundStandingTimes distinct_is_open mid after (suc i) t ≤ 1
        go (inl h) = omega (arith, changed, rec, settled_row-held _ _ _ row new parts t h)
        go (inr h) =
            let apart = or_parts (types_taken_after mid (take i after) t) (has (open_types before) t) h in
            let none_before = type_times-none (open_types before) t apart.1 in
            let none_done = type_times-none (locked_types mid ++ open_types (take i after)) t apart.0 in
            let here = round_distinct_times mid i t row at_row l in
            let fewer = round_distinct_mid before remote receives mid m t in
            let none_row : type_times (types_of row) t ≡ 0 = omega (arith, none_before, here, fewer) in
            omega (
              arith,
              changed,
              none_before,
              none_done,
              fewer,
              round_times_where-drop distinct_is_open mid i t,
              type_times-append (locked_types mid) (open_types (take i after)) t,
              settled_row-once _ _ _ row new parts t none_row,
            )

  distinct_open_next : (i : ℕ) → i < length after → length after ≡ length mid → RoundStandingTimes distinct_is_open mid after i t ≤ 1
      → RoundStandingTimes distinct_is_open mid after (suc i) t ≤ 1
  distinct_open_next i h whole rec = at (slice_get after i) refl where
    now : (row new : PayloadParams) → slice_get mid i ≡ Some row → slice_get after i ≡ Some new → (l : Bool) → row.locked ≡ l
        → RoundStandingTimes distinct_is_open mid after (suc i) t ≤ 1
    now row new at_row at_new false l = distinct_open_step i row new at_row at_new l rec
    now row new at_row at_new true l =
        let same = ap (λ r. type_times (cond (distinct_is_open r) (types_of r) []) t)
        (settled-same _ _ _ row new (second.each i row new at_row at_new) l)
        in
        omega (arith, round_standing_step distinct_is_open mid after i t row new at_row at_new, same, rec)

    at : (o : Option PayloadParams) → slice_get after i ≡ o → RoundStandingTimes distinct_is_open mid after (suc i) t ≤ 1
    at None e = absurd (pass_none_within after i h e)
    at (Some new) e = let row = row_before mid after i new whole e in now row.0 new row.1 e row.0.locked refl

  round_distinct_once : length after ≡ length mid → type_times (open_types before) t ≤ 1 → (i : ℕ) → i ≤ length after
      → RoundStandingTimes distinct_is_open mid after i t ≤ 1
  round_distinct_once whole once zero h = omega (arith, once, round_distinct_mid before remote receives mid m t, type_times-nil t)
  round_distinct_once whole once (suc i) h = distinct_open_next i (omega arith) whole (round_distinct_once whole once i (omega arith))

-- where no type stands twice before a round, none does after it
pub distinct_stay : (before remote : List PayloadParams) (receives : Bool) (after : List PayloadParams)
    → RoundLeaves before remote receives after → AllTypesDistinct (types before) → AllTypesDistinct (types after)
distinct_stay before remote receives after r d t = go (cases_Bool (has (locked_types after) t)) where
  go : (has (locked_types after) t ≡ true) ⊎ (has (locked_types after) t ≡ false) → type_times (types after) t ≤ 1
  go (inl h) = omega (arith, locked_alone before remote receives after r t h)
  go (inr h) =
      let once : type_times (open_types before) t ≤ 1 = omega (arith, d t, type_times-split before t) in
      let all = round_distinct_once before remote receives r.mid after r.first r.second t r.whole once (length after) (omega arith) in
      let front = ap (λ xs. type_times (open_types xs) t) (take_all (length after) after (omega arith)) in
      omega (arith, all, front, type_times-split after t, type_times-none (locked_types after) t h)
