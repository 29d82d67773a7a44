use Rattle.str0m_formats.proofs.Common.{◌≡◌, ◌++◌, List, length}
use Rattle.str0m_formats.proofs.round.ChoiceFromBack.{AllBelow}
use Rattle.str0m_formats.proofs.round.ChoiceSteps.{IsChoiceSoFar}
use Rattle.str0m_formats.proofs.round.claims.Claims.choice.Given as goal
use Rattle.str0m_formats.specs.declared.row.payload_params.PayloadParams.{PayloadParams}
use Rattle.str0m_formats.specs.round.Choices.{choice_points_for, seen_best_choice}

-- the rows that were seen are the last ones: none fits in full, and this is the choice among them
abbrev pub invariant-loop-theirs : goal.invariant-loop-theirs
invariant-loop-theirs g l = (seen : List PayloadParams) × (l.remote ≡ l.rest ++ seen)
    × AllBelow (choice_points_for (g.C.Claimed.holds l.self.claimed) l.self.receives l.row) 100 seen
    × IsChoiceSoFar (choice_points_for (g.C.Claimed.holds l.self.claimed) l.self.receives l.row) seen (seen_best_choice l.best)

abbrev pub decreases-loop-theirs : goal.decreases-loop-theirs
decreases-loop-theirs g l = length l.rest
