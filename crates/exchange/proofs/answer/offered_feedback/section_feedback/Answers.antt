use Rattle.exchange.proofs.Common.{List, subst, MediaAttribute}
use Rattle.exchange.proofs.answer.offered_feedback.section_feedback.Goals as goal
use Rattle.exchange.specs.answer.OfferedFeedback.{IsFeedbackGathered}

pub returns : goal.returns
returns c = subst (λ (attrs : List MediaAttribute). IsFeedbackGathered attrs c.gathered_feedback.result.of_types
    c.gathered_feedback.result.of_all)
    c.as_slice.ensures
    c.gathered_feedback.ensures
