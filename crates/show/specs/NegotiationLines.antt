-- The lines of `sdpshow negotiate`.
use Rattle.show.specs.RowLines.{row_line}
use Rattle.std.specs.Prelude.{◌≡◌, ℕ, ◌+◌, Bool, true, false, List, [], ◌∷◌, ◌++◌, Ok, Err, codes, decimal, flat_map}
use Rattle.str0m_formats.specs.declared.row.payload_params.PayloadParams.{PayloadParams}
use Rattle.str0m_formats.specs.round.NegotiationError.{negotiation_cause_text}
use Rattle.str0m_formats.specs.round.RoundsRuns.{OutcomeOfRound}
use Rattle.str0m_formats.specs.row.DefaultRows.{usual_rows}
use Rattle.str0m_signal.specs.session.Negotiation.{NegotiatedText}

-- what the round of a number came to
abbrev pub outcome_line : ℕ → OutcomeOfRound → List ℕ
outcome_line n (Ok done) = codes "round " ++ (decimal n ++ codes " ok\n")
outcome_line n (Err cause) = codes "round " ++ (decimal n ++ (codes " refused: " ++ (negotiation_cause_text cause ++ codes "\n")))

-- those of rounds one after another, the first of them of this number
abbrev pub outcome_lines : ℕ → List OutcomeOfRound → List ℕ
outcome_lines n [] = []
outcome_lines n (outcome ∷ outcomes) = outcome_line n outcome ++ outcome_lines (n + 1) outcomes

abbrev pub negotiation_lock_text : Bool → List ℕ
negotiation_lock_text true = codes "locked"
negotiation_lock_text false = codes "open"

-- a row as the rows of a section are shown, with its state in place of the mid
abbrev pub state_line : PayloadParams → List ℕ
state_line row = row_line (negotiation_lock_text row.locked) row

-- the outcomes of all rounds, counted from 1, and the rows that they leave
abbrev pub negotiation_text : List OutcomeOfRound → List PayloadParams → List ℕ
negotiation_text outcomes rows = outcome_lines 1 outcomes ++ flat_map state_line rows

-- the default configuration is negotiated with the text, and this is shown of it
abbrev pub PrintsRounds : List ℕ → List ℕ → Type 0
PrintsRounds bytes printed = (outcomes : List OutcomeOfRound) × (after : List PayloadParams)
    × NegotiatedText bytes usual_rows outcomes after × (printed ≡ negotiation_text outcomes after)
