-- What negotiating with a later offer comes to.
use Rattle.std.specs.Prelude.{◌≡◌, ◌<◌, ℕ, Result, Ok, Err, Option, Some, None, List, MatchOption, slice_get}
use Rattle.str0m_formats.specs.declared.round.negotiation_error.NegotiationError.{NegotiationError}
use Rattle.str0m_formats.specs.declared.row.payload_params.PayloadParams.{PayloadParams}
use Rattle.str0m_formats.specs.round.RoundsRuns.{OutcomeOfRound}
use Rattle.str0m_signal.specs.session.Negotiation.{NegotiatedText}
use Rattle.str0m_signal.specs.session.Reader.{DescribesSession}
use Rattle.str0m_signal.specs.session.ReaderAnswers.{ReaderRefuses}
use Rattle.uses.specs.declared.call_error.CallError.{CallError}
use Rattle.uses.specs.declared.call_error.CallError.TheVariants.{NotRead, Refused, Memory}

abbrev pub round_refusal : OutcomeOfRound → Option NegotiationError
round_refusal (Ok done) = None
round_refusal (Err cause) = Some cause

-- the first of the outcomes that is a refusal has this cause; None where none is
abbrev pub IsFirstRoundRefusal : List OutcomeOfRound → Option NegotiationError → Type 0
IsFirstRoundRefusal outcomes refused = MatchOption refused
    ((k : ℕ) (outcome : OutcomeOfRound) → slice_get outcomes k ≡ Some outcome → round_refusal outcome ≡ None)
    (λ cause. (i : ℕ) × (slice_get outcomes i ≡ Some (Err cause))
    × ((k : ℕ) (outcome : OutcomeOfRound) → k < i → slice_get outcomes k ≡ Some outcome → round_refusal outcome ≡ None))

-- the text's rounds lead from the rows before them to the rows after them, and this is the first refusal among them
abbrev pub NegotiatesRoundsUntil : List ℕ → List PayloadParams → Option NegotiationError → List PayloadParams → Type 0
NegotiatesRoundsUntil text before refused after =
    (outcomes : List OutcomeOfRound) × NegotiatedText text before outcomes after × IsFirstRoundRefusal outcomes refused

-- Ok where no round was refused, else the first refusal; what isn't read changes nothing
abbrev pub ComesToRound : List ℕ → List PayloadParams → Result (Unit {0}) CallError → List PayloadParams → Type 0
ComesToRound text before (Ok done) after = NegotiatesRoundsUntil text before None after
ComesToRound text before (Err (Refused cause)) after = NegotiatesRoundsUntil text before (Some cause) after
ComesToRound text before (Err (NotRead error)) after = ReaderRefuses error (DescribesSession text) × (after ≡ before)
ComesToRound text before (Err Memory) after = ⊥
