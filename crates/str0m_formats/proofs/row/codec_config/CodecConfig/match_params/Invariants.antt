use Rattle.str0m_formats.proofs.Common.{take}
use Rattle.str0m_formats.proofs.round.ChoiceSteps.{IsChoiceSoFar}
use Rattle.str0m_formats.proofs.row.codec_config.CodecConfig.match_params.Given as goal
use Rattle.str0m_formats.specs.round.Choices.{choice_points_with, seen_best_choice}

-- the choice among the rows so far
abbrev pub invariant-loop-row : goal.invariant-loop-row
invariant-loop-row l = IsChoiceSoFar (choice_points_with l.params) (take l.row-index l.row-items) (seen_best_choice l.best)
