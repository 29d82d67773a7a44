use Rattle.exchange.proofs.Common.{arith, common_steps, map_more}
use Rattle.exchange.proofs.offer.names.grown_names.Goals as goal
use Rattle.exchange.specs.offer.Names.{new_name}

pub loop-section-preserved : goal.loop-section-preserved
loop-section-preserved c =
    let more = map_more (new_name c.args.had.now) c.args.sections.now c.loop-section.section-index c.section-item.result
    c.loop-section-test.true c.section-item.is in
    grind (arith, common_steps, more)
