use Rattle.exchange.proofs.Common.{ap, replicate, take_all}
use Rattle.exchange.proofs.answer.OfferedFeedbackLaws.{no_feedback_gathered, feedback_other_more, feedback_typed_more}
use Rattle.exchange.proofs.answer.offered_feedback.gathered_feedback.Goals as goal
use Rattle.exchange.specs.declared.answer.offered_feedback.OfferedFeedback.{OfferedFeedback}

pub loop-attr-init : goal.loop-attr-init
loop-attr-init c = no_feedback_gathered _ _ (ap (λ (f : OfferedFeedback). replicate 256 f) c.none-nothing.ensures) c.none-nothing.ensures

pub loop-attr-preserved : goal.loop-attr-preserved
loop-attr-preserved c =
    let attrs = c.args.attrs.now in
    let of_types = c.loop-attr.of_types in
    let of_all = c.loop-attr.of_all in
    let i = c.loop-attr.attr-index in
    let attr = c.attr-item.result in
    let lt = c.loop-attr-test.true in
    let is = c.attr-item.is in
    elim c.match-attr.branch [
      | goal.in-RtcpFb w ↦
          rw (w.of_types-is, w.of_all-is, w.add_feedback_value.ensures.added, w.as_str.ensures.value)
          (feedback_typed_more attrs of_types of_all i w.in-RtcpFb.pt w.in-RtcpFb.value attr lt is w.in-RtcpFb.is
          w.add_feedback_value.ensures.within
          c.loop-attr.invariant)
      | goal.in_default w ↦
          rw (w.of_types-is, w.of_all-is, w.with_line-of_all.ensures)
          (feedback_other_more attrs of_types of_all i attr lt is w.in_default.not-RtcpFb c.loop-attr.invariant)
    ]

pub returns : goal.returns
returns c = rw (← take_all c.loop-attr.attr-index c.args.attrs.now c.loop-attr-test.false) c.loop-attr.invariant
