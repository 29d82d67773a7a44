use Rattle.str0m_signal.proofs.Common.{arith}
use Rattle.str0m_signal.proofs.line.PairLaws.{pair_value_to}
use Rattle.str0m_signal.proofs.line.pairs.value.Goals as goal

pub returns-else-at-eq0 : goal.returns-else-at-eq0
returns-else-at-eq0 c =
    let end = rw c.as_bytes.ensures.value at c.value_end-at.ensures in
    rw (c.split_at.ensures.front, c.split_at.ensures.back)
    (pair_value_to c.args.text.now c.value_end-at.result end (omega (arith, c.if-at-eq0.false)))
