use Rattle.exchange.proofs.Common.{Some, ◌∙◌}
use Rattle.exchange.proofs.answer.bundle.is_group_listed.Goals as goal

pub returns : goal.returns
returns c = c.is_mid_held.ensures ∙ c.requires (Some c.args.mid)
