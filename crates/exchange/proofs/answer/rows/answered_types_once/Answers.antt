use Rattle.exchange.proofs.Common.{arith, common_steps}
use Rattle.exchange.proofs.answer.RowsListLaws.{list_distinct_more}
use Rattle.exchange.proofs.answer.rows.answered_types_once.Goals as goal

pub loop-pt-preserved : goal.loop-pt-preserved
loop-pt-preserved c =
    let more = list_distinct_more c.args.listed.now c.loop-pt.pt-index c.pt-item.result c.loop-pt-test.true c.pt-item.is in
    grind (arith, common_steps, more)
