-- A run of rounds goes on by one round.
use Rattle.str0m_formats.proofs.Common.{arith, ◌≡◌, ◌≢◌, ℕ, ◌+◌, ◌<◌, Bool, Result, OnOk, OnErr, IfErr, List, [], ◌∷◌, ◌++◌, length, take}
use Rattle.str0m_formats.proofs.Common.{get_or, sym, ap, ◌∙◌, subst, take_more, take_more_set, receives, set}
use Rattle.str0m_formats.specs.declared.round.negotiation_error.NegotiationError.{NegotiationError}
use Rattle.str0m_formats.specs.declared.round.negotiation_error.NegotiationError.TheVariants.{Memory}
use Rattle.str0m_formats.specs.declared.round.rounds.Round.{Round}
use Rattle.str0m_formats.specs.declared.row.payload_params.PayloadParams.{PayloadParams}
use Rattle.str0m_formats.specs.round.Rounds.{RoundLeaves, RoundRefused}
use Rattle.str0m_formats.specs.round.RoundsRuns.{RoundRan, RunReached}

pub run_reached_push : (before : List PayloadParams) (rounds : List Round) (outcomes : List (Result (Unit {0}) NegotiationError))
    (mid after : List PayloadParams) (round : Round) (outcome : Result (Unit {0}) NegotiationError)
    → RunReached before rounds outcomes mid → RoundRan mid round.remote.items (receives round.direction) outcome after
    → RunReached before (rounds ++ round ∷ []) (outcomes ++ outcome ∷ []) after
run_reached_push before [] [] mid after round outcome h r = grind arith
run_reached_push before [] (o ∷ outcomes) mid after round outcome h r = absurd h
run_reached_push before (x ∷ rounds) [] mid after round outcome h r = absurd h
run_reached_push before (x ∷ rounds) (o ∷ outcomes) mid after round outcome h r =
    grind (arith, run_reached_push h.0 rounds outcomes mid after round outcome h.2 r)

-- what the clauses of one round say together
pub rounds_ran_from : (before remote after : List PayloadParams) (dir : Bool) (result : Result (Unit {0}) NegotiationError)
    → OnOk result (RoundLeaves before remote dir after) → IfErr result (λ cause. cause ≢ Memory → RoundRefused before remote dir cause)
    → OnErr result (after ≡ before) → RoundRan before remote dir result after
rounds_ran_from before remote after dir result ok cause err = grind arith

pub run_reached_step : (before now after : List PayloadParams) (rounds : List Round) (outcomes : List (Result (Unit {0}) NegotiationError))
    (i : ℕ) (round : Round) (outcome : Result (Unit {0}) NegotiationError)
    → i < length rounds → i < length outcomes → round ≡ get_or rounds i round → RunReached before (take i rounds) (take i outcomes) now
    → RoundRan now round.remote.items (receives round.direction) outcome after
    → RunReached before (take (i + 1) rounds) (take (i + 1) (set outcomes i outcome)) after
run_reached_step before now after rounds outcomes i round outcome h k e r s =
    let front : take i rounds ++ round ∷ [] ≡ take (i + 1) rounds =
    sym (take_more rounds i round h ∙ ap (λ x. take i rounds ++ x ∷ []) (sym e)) in
    let back : take i outcomes ++ outcome ∷ [] ≡ take (i + 1) (set outcomes i outcome) = sym (take_more_set outcomes i outcome k) in
    let P : List Round → Type 0 = λ xs. RunReached before xs (take i outcomes ++ outcome ∷ []) after in
    let Q : List (Result (Unit {0}) NegotiationError) → Type 0 = λ ys. RunReached before (take (i + 1) rounds) ys after in
    subst Q back (subst P front (run_reached_push before (take i rounds) (take i outcomes) now after round outcome r s))
