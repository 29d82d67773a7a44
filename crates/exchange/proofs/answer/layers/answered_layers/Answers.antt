use Rattle.exchange.proofs.answer.LayerLaws.{all_layers_turned, no_layers_said}
use Rattle.exchange.proofs.answer.layers.answered_layers.Goals as goal

pub returns-clause-turned : goal.returns-clause-turned
returns-clause-turned c = all_layers_turned c.args.rows.now c.args.offered.now c.in_ok-lines.lines.items c.in_ok-lines.ensures

pub returns-clause-none : goal.returns-clause-none
returns-clause-none c = no_layers_said c.args.rows.now c.args.offered.now c.in_ok-lines.lines.items c.in_ok-lines.ensures
