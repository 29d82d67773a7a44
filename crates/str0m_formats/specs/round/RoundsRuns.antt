-- Rounds one after another.
use Rattle.std.specs.Prelude.{◌≡◌, Result, Ok, Err, List, [], ◌∷◌, Bool}
use Rattle.str0m_formats.specs.Prelude.{receives}
use Rattle.str0m_formats.specs.declared.round.negotiation_error.NegotiationError.{NegotiationError}
use Rattle.str0m_formats.specs.declared.round.negotiation_error.NegotiationError.TheVariants.{TypeTooLarge, ClaimedTwice, Exhausted, Memory}
use Rattle.str0m_formats.specs.declared.round.rounds.Round.{Round}
use Rattle.str0m_formats.specs.declared.row.payload_params.PayloadParams.{PayloadParams}
use Rattle.str0m_formats.specs.round.Rounds.{RoundLeaves, RoundRefused}

-- what a round answers
abbrev pub OutcomeOfRound : Type 0
OutcomeOfRound = Result (Unit {0}) NegotiationError

-- one round with its outcome. A cause, like out of memory, changes no row
abbrev pub RoundRan : List PayloadParams → List PayloadParams → Bool → OutcomeOfRound → List PayloadParams → Type 0
RoundRan before remote receives (Ok done) after = RoundLeaves before remote receives after
RoundRan before remote receives (Err Memory) after = after ≡ before
RoundRan before remote receives (Err (TypeTooLarge t)) after = RoundRefused before remote receives (TypeTooLarge t) × (after ≡ before)
RoundRan before remote receives (Err (ClaimedTwice t)) after = RoundRefused before remote receives (ClaimedTwice t) × (after ≡ before)
RoundRan before remote receives (Err Exhausted) after = RoundRefused before remote receives Exhausted × (after ≡ before)

-- one outcome for each round, in order, from the rows before them to the rows after them
abbrev pub RunReached : List PayloadParams → List Round → List OutcomeOfRound → List PayloadParams → Type 0
RunReached before [] [] after = after ≡ before
RunReached before (round ∷ rounds) (outcome ∷ outcomes) after =
    (mid : List PayloadParams) × RoundRan before round.remote.items (receives round.direction) outcome mid × RunReached mid rounds outcomes after
RunReached before [] (outcome ∷ outcomes) after = ⊥
RunReached before (round ∷ rounds) [] after = ⊥

-- what holds of the rows before and after each accepted round
abbrev pub AtEachOkRound : (List PayloadParams → List PayloadParams → Bool → List PayloadParams → Type 0) → List PayloadParams → List Round → List OutcomeOfRound → List PayloadParams → Type 0
AtEachOkRound holds before [] [] after = after ≡ before
AtEachOkRound holds before (round ∷ rounds) (Ok done ∷ outcomes) after =
    (mid : List PayloadParams) × holds before round.remote.items (receives round.direction) mid × AtEachOkRound holds mid rounds outcomes after
AtEachOkRound holds before (round ∷ rounds) (Err cause ∷ outcomes) after = AtEachOkRound holds before rounds outcomes after
AtEachOkRound holds before [] (outcome ∷ outcomes) after = ⊥
AtEachOkRound holds before (round ∷ rounds) [] after = ⊥
