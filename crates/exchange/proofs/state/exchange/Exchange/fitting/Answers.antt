use Rattle.exchange.proofs.Common.{arith, ◌≡◌, Some, ap, option_map, common_steps}
use Rattle.exchange.proofs.answer.AnswerLaws.{answer_misfit}
use Rattle.exchange.proofs.state.exchange.Exchange.fitting.Goals as goal
use Rattle.exchange.specs.declared.offer.pending.Pending.{Pending}
use Rattle.exchange.specs.offer.AcceptedAnswer.{RefusesAnswer}
use Rattle.exchange.specs.state.State.{pending_sdp}

pub returns-in_err-check_offer_fit-clause-refused : goal.returns-in_err-check_offer_fit-clause-refused
returns-in_err-check_offer_fit-clause-refused c =
    let open_so : pending_sdp c.args.self.now ≡ Some c.in-Some.pending.sdp =
    ap (option_map (λ (offer : Pending). offer.sdp)) c.in-Some.is in
    let told : RefusesAnswer c.args.self.now c.args.answer.now c.in_err-check_offer_fit.field-0.0 =
    answer_misfit c.args.self.now c.args.answer.now c.in-Some.pending.sdp c.in_ok-remote.remote c.in_ok-config.config.params.items
    c.in_err-check_offer_fit.field-0.0
    c.in_err-check_offer_fit.ensures.refused open_so c.in_ok-remote.ensures.read c.in_ok-config.ensures.rounds in
    grind (arith, common_steps, told)
