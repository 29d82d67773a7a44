use Rattle.exchange.proofs.Common.{arith, common_steps, map_more}
use Rattle.exchange.proofs.offer.added.with_offer_placed.Goals as goal
use Rattle.exchange.specs.offer.Added.{placed_direction}

pub loop-it-preserved : goal.loop-it-preserved
loop-it-preserved c =
    let more = map_more placed_direction c.args.placed.now c.loop-it.it-index c.it-item.result c.loop-it-test.true c.it-item.is in
    elim c.match-placed_direction.branch [
      | goal.in-Some+in_ok-push w ↦ grind (arith, common_steps, more)
      | goal.in_default w ↦ grind (arith, common_steps, more)
    ]
