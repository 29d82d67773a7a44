-- With few rows a free type is always left: counting the types that are held back.
use Rattle.str0m_formats.proofs.Common.{zero, suc, ◌≡◌, ◌==◌, ℕ, ◌+◌, ◌*◌, ◌<◌, ◌≤◌, ◌⊎◌, inl, inr, Bool, true, false, not, cond, find}
use Rattle.str0m_formats.proofs.Common.{List, [], ◌∷◌, ◌++◌, length, Option, Some, None, Result, Ok, Err, IfErr, IfSome, filter, refl, sym}
use Rattle.str0m_formats.proofs.Common.{ap, ◌∙◌, arith, slice_get, option_to_list, ok_or, slice_get_within, same_Some, none-some}
use Rattle.str0m_formats.proofs.Common.{length-append, false≢true, and_parts, not-true, or_cases, or_left, or_right, or-false, cases_Bool}
use Rattle.str0m_formats.proofs.Common.{eqb-true, eq-eqb, IfErr-at_err, fun_ext}
use Rattle.str0m_formats.proofs.round.ClaimedSets.{type-is, two_claims-are}
use Rattle.str0m_formats.proofs.round.ClaimedTimes.{all_claimed_apart}
use Rattle.str0m_formats.proofs.round.RoundsOutcome.{HasLargeClaim, HasClaimRepeat, RoundRefusalCases, round_refusal_cases_of}
use Rattle.str0m_formats.proofs.round.RoundsRowCounts.{round_types_length-split}
use Rattle.str0m_formats.proofs.round.RoundsRowSteps.{round_role_cases, round_step_then_err}
use Rattle.str0m_formats.proofs.round.SettlingPass.{settled-locked, settled_if_locked}
use Rattle.str0m_formats.proofs.row.PayloadParamsSets.{row_types_has-append}
use Rattle.str0m_formats.specs.declared.round.negotiation_error.NegotiationError.{NegotiationError}
use Rattle.str0m_formats.specs.declared.round.negotiation_error.NegotiationError.TheVariants.{Exhausted, ClaimedTwice}
use Rattle.str0m_formats.specs.declared.row.payload_params.PayloadParams.{PayloadParams}
use Rattle.str0m_formats.specs.round.Claimed.{TypeSet, has, with_type, claimed_with_option, either_set, free, claim_order}
use Rattle.str0m_formats.specs.round.Narrowing.{narrowed}
use Rattle.str0m_formats.specs.round.Rounds.{then_in_round, role_type, rtx_type, locked_to, placed, types_taken_by, types_taken_after}
use Rattle.str0m_formats.specs.round.Rounds.{settled_row}
use Rattle.str0m_formats.specs.round.Rounds.{kept_or_free_claim, kept_red, kept_rtx, StopsFirstPass, StopsSecondPass, RoundRefused}
use Rattle.str0m_formats.specs.row.PayloadParams.{types_of, types, locked_types, open_types}

-- ---- a list without repeats that stands in another is no longer

types_without_one : ℕ → List ℕ → List ℕ
types_without_one x [] = []
types_without_one x (y ∷ ys) = cond (y == x) ys (y ∷ types_without_one x ys)

length-claims_without : (x : ℕ) (ys : List ℕ) → has ys x ≡ true → suc (length (types_without_one x ys)) ≡ length ys
unfolding types_without_one
length-claims_without x [] h = absurd (false≢true h)
length-claims_without x (y ∷ ys) h = grind (arith, length-claims_without x ys)

types-has-without : (x t : ℕ) (ys : List ℕ) → (x == t) ≡ false → has ys t ≡ true → has (types_without_one x ys) t ≡ true
unfolding types_without_one
types-has-without x t [] ne h = h
types-has-without x t (y ∷ ys) ne h = grind (arith, types-has-without x t ys ne, or_cases, eqb-true, or_left, or_right)

pub round_pigeons : (xs ys : List ℕ) → all_claimed_apart xs ≡ true → ((t : ℕ) → has xs t ≡ true → has ys t ≡ true) → length xs ≤ length ys
round_pigeons [] ys d h = omega arith
round_pigeons (x ∷ xs) ys d h =
    grind (
      arith,
      and_parts,
      or_left,
      eq-eqb,
      length-claims_without,
      round_pigeons xs (types_without_one x ys),
      types-has-without,
      not-true,
      or_right,
      cases_Bool,
      eqb-true,
    )

-- where nothing is free, each preferred type is in use
all_claims_used : (used : TypeSet) (xs : List ℕ) → find (λ t. not (used t)) xs ≡ None → (t : ℕ) → has xs t ≡ true → used t ≡ true
all_claims_used used [] h t k = absurd (false≢true k)
all_claims_used used (x ∷ xs) h t k = grind (arith, all_claims_used used xs, or_cases, none-some, eqb-true)

preferred_claims_apart : all_claimed_apart claim_order ≡ true
unfolding claim_order
preferred_claims_apart = refl

preferred_claims_long : length claim_order ≡ 87
unfolding claim_order
preferred_claims_long = refl

-- fewer than 87 types in use leave a free one
pub some_free_claim : (used : List ℕ) → length used < 87 → free (has used) ≡ None → ⊥
some_free_claim used h e = omega (
  arith,
  h,
  preferred_claims_long,
  round_pigeons claim_order used preferred_claims_apart (all_claims_used (has used) claim_order e),
)

-- ---- how many types rows have

role_claims_short : (o : Option ℕ) → length (option_to_list o) ≤ 1
role_claims_short o = grind arith

pub length-types_of : (row : PayloadParams) → length (types_of row) ≤ 3
length-types_of row = omega (
  arith,
  length-append (option_to_list row.resend) (option_to_list row.red),
  role_claims_short row.resend,
  role_claims_short row.red,
)

pub length-types : (rows : List PayloadParams) → length (types rows) ≤ 3 * length rows
length-types [] = omega arith
length-types (r ∷ rows) = omega (arith, length-append (types_of r) (types rows), length-types_of r, length-types rows)

-- ---- why a row can't be done

-- no type is free, or the remote demands one that is taken
abbrev pub RoundDemands : Bool → NegotiationError → Type 0
RoundDemands receives cause = (t : ℕ) × (receives ≡ true) × (cause ≡ ClaimedTwice t)

abbrev RoundFails : TypeSet → TypeSet → Bool → NegotiationError → Type 0
RoundFails taken unlocked receives cause = (free (either_set taken unlocked) ≡ None) ⊎ RoundDemands receives cause

-- so it is beside what is taken and at most two types more
abbrev RowFails : TypeSet → TypeSet → Bool → NegotiationError → Type 0
RowFails taken unlocked receives cause = (more : List ℕ) × (length more ≤ 2)
    × RoundFails (either_set taken (has more)) unlocked receives cause

round_none-fails : (taken unlocked : TypeSet) (receives : Bool)
    → IfErr (ok_or (free (either_set taken unlocked)) Exhausted) (RoundFails taken unlocked receives)
round_none-fails taken unlocked receives = grind arith

round_fails_beside : {A : Type 0} (r : Result A NegotiationError) (taken set unlocked : TypeSet) (receives : Bool) (more : List ℕ)
    → set ≡ either_set taken (has more) → length more ≤ 2
    → IfErr r (RoundFails set unlocked receives) → IfErr r (RowFails taken unlocked receives)
round_fails_beside r taken set unlocked receives more is few = grind arith

either_types_no_more : (taken : TypeSet) → taken ≡ either_set taken (has [])
either_types_no_more taken = fun_ext (λ t. sym (or-false (taken t)))

-- ---- the first pass

round_role-fails : (taken unlocked : TypeSet) (receives : Bool) (asked : ℕ) (own : Option ℕ)
    → IfErr (role_type taken unlocked receives asked own) (RoundFails taken unlocked receives)
round_role-fails taken unlocked receives asked own =
    round_role_cases (λ r. IfErr r (RoundFails taken unlocked receives)) taken unlocked receives asked own (λ e. tt)
    (λ is. inr (asked, is, refl))
    (kept own) (round_none-fails taken unlocked receives) where
      kept : (o : Option ℕ) → IfSome o (λ t. taken t ≡ false → Unit {0})
      kept None = tt
      kept (Some t) = λ e. tt

rtx-fails : (taken unlocked : TypeSet) (receives : Bool) (asked own : Option ℕ)
    → IfErr (rtx_type taken unlocked receives asked own) (RoundFails taken unlocked receives)
unfolding rtx_type
rtx-fails taken unlocked receives asked own = grind (arith, round_step_then_err, round_role-fails)

round_placed-fails : (taken unlocked : TypeSet) (receives : Bool) (row : PayloadParams) (choice : Option PayloadParams)
    → IfErr (placed taken unlocked receives row choice) (RowFails taken unlocked receives)
unfolding placed locked_to
round_placed-fails taken unlocked receives row None = tt
round_placed-fails taken unlocked receives row (Some c) = go row.locked where
  go : (b : Bool) → IfErr (cond b (Ok (record row { spec = narrowed row.spec c.spec })) (locked_to taken unlocked receives row c))
      (RowFails taken unlocked receives)
  go true = tt
  go false =
      round_step_then_err (role_type taken unlocked receives c.pt (Some row.pt)) _ (RowFails taken unlocked receives)
      (round_fails_beside (role_type taken unlocked receives c.pt (Some row.pt)) taken taken unlocked receives []
      (either_types_no_more taken)
      (omega arith) (round_role-fails taken unlocked receives c.pt (Some row.pt)))
      (λ pt. round_step_then_err (rtx_type (with_type taken pt) unlocked receives c.resend row.resend) _ (RowFails taken unlocked receives)
      (round_fails_beside (rtx_type (with_type taken pt) unlocked receives c.resend row.resend) taken (with_type taken pt) unlocked receives
      (pt ∷ []) (type-is taken pt) (omega arith) (rtx-fails (with_type taken pt) unlocked receives c.resend row.resend))
      (λ resend. tt))

-- fewer than 87 types leave a free one
free_claim_beside : (held more others : List ℕ) → length held + length more + length others < 87
    → free (either_set (either_set (has held) (has more)) (has others)) ≡ None → ⊥
free_claim_beside held more others room e =
    some_free_claim ((held ++ more) ++ others) (omega (arith, room, length-append (held ++ more) others, length-append held more))
    (ap free (row_types_has-append (held ++ more) others ∙ ap (λ (s : TypeSet). either_set s (has others)) (row_types_has-append held more))
    ∙ e)

-- with at most fourteen rows no row lacks a type in the first pass
first_pass_demands : (before remote : List PayloadParams) (receives : Bool) (cause : NegotiationError) → length before ≤ 14
    → StopsFirstPass before remote receives cause → RoundDemands receives cause
first_pass_demands before remote receives cause few s = go
    (IfErr-at_err (RowFails taken unlocked receives) s.stops.placed_so (round_placed-fails taken unlocked receives s.row s.stops.choice))
  where
    taken : TypeSet
    taken = types_taken_by before s.done

    unlocked : TypeSet
    unlocked = has (open_types before)

    go : RowFails taken unlocked receives cause → RoundDemands receives cause
    go (more, role_claims_short, inr demands) = demands
    go (more, role_claims_short, inl full) =
        absurd (free_claim_beside (locked_types before ++ locked_types s.done) more (open_types before)
        (omega (
          arith,
          role_claims_short,
          few,
          length-append (locked_types before) (locked_types s.done),
          round_types_length-split before,
          length-types before,
          round_types_length-split s.done,
          length-types s.done,
          slice_get_within before (length s.done) s.row s.next,
        ))
        full)

-- ---- the second pass

length-locked : (rows : List PayloadParams) → length (locked_types rows) ≤ 3 * length rows
length-locked rows = omega (arith, round_types_length-split rows, length-types rows)

-- the locked rows and the open rows so far leave out the row that is next, where that is open
second_pass_room : (mid done : List PayloadParams) (row : PayloadParams)
    → ((i : ℕ) (old new : PayloadParams) → slice_get mid i ≡ Some old → slice_get done i ≡ Some new → new.locked ≡ old.locked)
    → slice_get mid (length done) ≡ Some row → row.locked ≡ false
    → length (locked_types mid) + length (open_types done) + 3 ≤ 3 * length mid
second_pass_room [] done row same next is_open = absurd (none-some row next)
second_pass_room (m ∷ mid) [] row same next is_open = grind (arith, same_Some, length-locked)
second_pass_room (m ∷ mid) (d ∷ done) row same next is_open =
    go m.locked refl (same zero m d refl refl) (second_pass_room mid done row (λ i old new e f. same (suc i) old new e f) next is_open)
  where
    go : (b : Bool) → m.locked ≡ b → d.locked ≡ m.locked → length (locked_types mid) + length (open_types done) + 3 ≤ 3 * length mid
        → length (locked_types (m ∷ mid)) + length (open_types (d ∷ done)) + 3 ≤ 3 * suc (length mid)
    go true e f rec =
        let l : length (locked_types (m ∷ mid)) ≡ length (types_of m ++ locked_types mid) =
        ap (λ b. length (types (cond b (m ∷ filter (λ x. x.locked) mid) (filter (λ x. x.locked) mid)))) e in
        let o : length (open_types (d ∷ done)) ≡ length (open_types done) =
        ap (λ b. length (types (cond (not b) (d ∷ filter (λ x. not x.locked) done) (filter (λ x. not x.locked) done)))) (f ∙ e) in
        omega (arith, rec, l, o, length-append (types_of m) (locked_types mid), length-types_of m)
    go false e f rec =
        let l : length (locked_types (m ∷ mid)) ≡ length (locked_types mid) =
        ap (λ b. length (types (cond b (m ∷ filter (λ x. x.locked) mid) (filter (λ x. x.locked) mid)))) e in
        let o : length (open_types (d ∷ done)) ≡ length (types_of d ++ open_types done) =
        ap (λ b. length (types (cond (not b) (d ∷ filter (λ x. not x.locked) done) (filter (λ x. not x.locked) done)))) (f ∙ e) in
        omega (arith, rec, l, o, length-append (types_of d) (open_types done), length-types_of d)

round_kept_role-fails : (locked taken unlocked : TypeSet) (receives : Bool) (t : ℕ)
    → IfErr (ok_or (kept_or_free_claim locked taken unlocked t) Exhausted) (RoundFails taken unlocked receives)
round_kept_role-fails locked taken unlocked receives t = grind arith

kept_rtx-fails : (locked taken unlocked : TypeSet) (receives : Bool) (own : Option ℕ)
    → IfErr (kept_rtx locked taken unlocked own) (RoundFails taken unlocked receives)
kept_rtx-fails locked taken unlocked receives own = grind arith

settled-fails : (locked taken unlocked : TypeSet) (receives : Bool) (row : PayloadParams)
    → IfErr (settled_row locked taken unlocked row) (RowFails taken unlocked receives)
unfolding settled_row
settled-fails locked taken unlocked receives row = go row.locked where
  go : (b : Bool) → IfErr (cond b (Ok row) (then_in_round (ok_or (kept_or_free_claim locked taken unlocked row.pt) Exhausted) (λ pt.
      then_in_round (kept_rtx locked (claimed_with_option (with_type taken pt) (kept_red locked (with_type taken pt) unlocked row.red))
      unlocked
      row.resend) (λ resend.
      Ok (record row { pt = pt; resend = resend; red = kept_red locked (with_type taken pt) unlocked row.red })))))
      (RowFails taken unlocked receives)
  go true = tt
  go false =
      round_step_then_err (ok_or (kept_or_free_claim locked taken unlocked row.pt) Exhausted) _ (RowFails taken unlocked receives)
      (round_fails_beside (ok_or (kept_or_free_claim locked taken unlocked row.pt) Exhausted) taken taken unlocked receives []
      (either_types_no_more taken)
      (omega arith) (round_kept_role-fails locked taken unlocked receives row.pt))
      (λ pt.
      let red = kept_red locked (with_type taken pt) unlocked row.red in
      let two = claimed_with_option (with_type taken pt) red in
      round_step_then_err (kept_rtx locked two unlocked row.resend) _ (RowFails taken unlocked receives)
      (round_fails_beside (kept_rtx locked two unlocked row.resend) taken two unlocked receives (pt ∷ option_to_list red)
      (two_claims-are taken pt red)
      (omega (arith, role_claims_short red)) (kept_rtx-fails locked two unlocked receives row.resend))
      (λ resend. tt))

round-stops-open : (locked taken unlocked : TypeSet) (row : PayloadParams) (cause : NegotiationError)
    → settled_row locked taken unlocked row ≡ Err cause → row.locked ≡ false
round-stops-open locked taken unlocked row cause h = grind (arith, settled_if_locked)

-- with at most fourteen rows no row lacks a type in the second pass
second_pass_demands : (before remote : List PayloadParams) (receives : Bool) (cause : NegotiationError) → length before ≤ 14
    → StopsSecondPass before remote receives cause → RoundDemands receives cause
second_pass_demands before remote receives cause few s = go
    (IfErr-at_err (RowFails taken unlocked receives) s.second.stops
    (settled-fails (has (locked_types s.mid)) taken unlocked receives s.second.row)) where
      taken : TypeSet
      taken = types_taken_after s.mid s.second.done

      unlocked : TypeSet
      unlocked = has (open_types before)

      go : RowFails taken unlocked receives cause → RoundDemands receives cause
      go (more, role_claims_short, inr demands) = demands
      go (more, role_claims_short, inl full) =
          let is_open = round-stops-open (has (locked_types s.mid)) taken unlocked s.second.row cause s.second.stops in
          let room = second_pass_room s.mid s.second.done s.second.row
          (λ i old new e f. settled-locked _ _ _ old new (s.second.before_it.each i old new e f)) s.second.next is_open in
          absurd (free_claim_beside (locked_types s.mid ++ open_types s.second.done) more (open_types before)
          (omega (
            arith,
            few,
            room,
            role_claims_short,
            s.first.whole,
            length-append (locked_types s.mid) (open_types s.second.done),
            round_types_length-split before,
            length-types before,
          ))
          full)

-- ---- a round of at most fourteen rows

-- it is refused for a type that is too large, or is claimed twice before the round, or is taken and demanded
abbrev pub RoundOfFewRefused : List PayloadParams → List PayloadParams → Bool → NegotiationError → Type 0
RoundOfFewRefused before remote receives cause = HasLargeClaim before remote cause ⊎
    (HasClaimRepeat before remote cause ⊎ RoundDemands receives cause)

pub round_of_few_refused : (before remote : List PayloadParams) (receives : Bool) (cause : NegotiationError) → length before ≤ 14
    → RoundRefused before remote receives cause → RoundOfFewRefused before remote receives cause
round_of_few_refused before remote receives cause few f = go (round_refusal_cases_of before remote receives cause f) where
  go : RoundRefusalCases before remote receives cause → RoundOfFewRefused before remote receives cause
  go (inl h) = inl h
  go (inr (inl h)) = inr (inl h)
  go (inr (inr (inl h))) = inr (inr (first_pass_demands before remote receives cause few h))
  go (inr (inr (inr h))) = inr (inr (second_pass_demands before remote receives cause few h))

-- so not for want of a type
pub round_never_exhausted : (before remote : List PayloadParams) (receives : Bool) → length before ≤ 14
    → RoundRefused before remote receives Exhausted
    → ⊥
round_never_exhausted before remote receives few f = grind (arith, round_of_few_refused)
