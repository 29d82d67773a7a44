use Rattle.exchange.proofs.Common.{arith, ◌≢◌, [], common_steps}
use Rattle.exchange.proofs.answer.OfferedUnreadLaws.{offered_cut_short}
use Rattle.exchange.proofs.answer.offered.whole_offered_description.Goals as goal

pub returns-clause-refused : goal.returns-clause-refused
returns-clause-refused c =
    let left : c.in_ok-offer.rest.now ≢ [] = grind (arith, common_steps) in
    offered_cut_short c.args.text.now c.in_ok-offer.rest.now c.in_ok-offer.offer c.offered_rest_line_number.result
    c.in_ok-offer.ensures.read left
    c.offered_rest_line_number.ensures
