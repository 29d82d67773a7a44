use Rattle.exchange.proofs.Common.{not, rules, filter_from_retain, is_of_type}
use Rattle.exchange.proofs.answer.accepted.keep_accepted_frame.Goals as goal

pub returns : goal.returns
returns c = filter_from_retain _ (λ attr. not (is_of_type attr)) (λ p x b q is. search rules) _ c.args.lines.now.items _
    c.retain.ensures.filtered
