use Rattle.exchange.proofs.Common.{take}
use Rattle.exchange.proofs.answer.offered_feedback.gathered_feedback.Given as goal
use Rattle.exchange.specs.answer.OfferedFeedback.{IsFeedbackGathered}

-- what the lines so far offer
abbrev pub invariant-loop-attr : goal.invariant-loop-attr
invariant-loop-attr l = IsFeedbackGathered (take l.attr-index l.attrs) l.of_types l.of_all
