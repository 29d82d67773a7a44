use Rattle.str0m_signal.proofs.back.ReadBackLaws.{lost_back_at, back_at}
use Rattle.str0m_signal.proofs.back.read_back.read_back.Goals as goal

pub returns-then-not-branch : goal.returns-then-not-branch
returns-then-not-branch g c =
    lost_back_at _ _ _ c.args.attrs.now c.loop-attr.attr-index c.attr-item.result c.loop-attr-test.true c.attr-item.is
    (rw c.if-not-branch.true at c.in_ok-item_back.ensures)

pub loop-attr-preserved : goal.loop-attr-preserved
loop-attr-preserved g c =
    back_at _ _ _ c.args.attrs.now c.loop-attr.attr-index c.attr-item.result c.loop-attr.reads.items _ c.loop-attr-test.true c.attr-item.is
    (rw c.if-not-branch.false at c.in_ok-item_back.ensures) c.loop-attr.invariant
