-- When a round is refused for memory alone.
use Rattle.str0m_formats.proofs.Common.{arith, ◌≡◌, ◌≤◌, inl, inr, Bool, false, List, ◌++◌, length, sym, ◌∙◌, true≢false}
use Rattle.str0m_formats.proofs.round.RoundsCounting.{RoundOfFewRefused, round_of_few_refused}
use Rattle.str0m_formats.proofs.round.RoundsOutcome.{claim_large_or_small, claim_repeat_not_once}
use Rattle.str0m_formats.specs.declared.round.negotiation_error.NegotiationError.{NegotiationError}
use Rattle.str0m_formats.specs.declared.row.payload_params.PayloadParams.{PayloadParams}
use Rattle.str0m_formats.specs.round.Rounds.{RoundRefused}
use Rattle.str0m_formats.specs.round.RoundsPromises.{KeepsRowBounds, RoundFailsOnlyForMemory}
use Rattle.str0m_formats.specs.round.RoundsRuns.{OutcomeOfRound, RoundRan}
use Rattle.str0m_formats.specs.row.PayloadParams.{types, locked_types}

-- with at most fourteen rows, types within bounds, and a remote that doesn't receive, a round has no cause
pub round_never_refused : (before remote : List PayloadParams) (receives : Bool) → length before ≤ 14 → KeepsRowBounds before remote
    → receives ≡ false → (cause : NegotiationError) → RoundRefused before remote receives cause → ⊥
round_never_refused before remote receives few bounds is_false cause f = go (round_of_few_refused before remote receives cause few f) where
  go : RoundOfFewRefused before remote receives cause → ⊥
  go (inl h) = claim_large_or_small (types before ++ types remote) h.0 h.1 bounds.0
  go (inr (inl h)) = claim_repeat_not_once (locked_types before) h.0 bounds.1 h.2
  go (inr (inr h)) = true≢false (sym h.1 ∙ is_false)

-- so it is refused for memory alone
pub only_for_memory : (before remote : List PayloadParams) (receives : Bool) (outcome : OutcomeOfRound) (after : List PayloadParams)
    → length before ≤ 14 → KeepsRowBounds before remote → receives ≡ false → RoundRan before remote receives outcome after
    → RoundFailsOnlyForMemory outcome
only_for_memory before remote receives outcome after few bounds is_false ran = grind (arith, round_never_refused)
