use Rattle.exchange.proofs.Common.{mids_holds_behind}
use Rattle.exchange.proofs.offer.names.ordered_names.Goals as goal

pub loop-mid-preserved : goal.loop-mid-preserved
loop-mid-preserved c =
    mids_holds_behind _ _ c.as_str.result c.mid-item.result c.args.mids.now c.loop-mid.mid-index c.loop-mid-test.true c.mid-item.is
    c.as_str.ensures.value c.in_ok-insert.ensures.updates c.loop-mid.invariant
