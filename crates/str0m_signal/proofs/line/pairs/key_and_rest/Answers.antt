use Rattle.str0m_signal.proofs.Common.{arith, IsCharBoundary-after_ascii}
use Rattle.str0m_signal.proofs.line.PairKeyLaws.{key_found, key_empty, key_none}
use Rattle.str0m_signal.proofs.line.pairs.key_and_rest.Goals as goal

pub range_from-requires : goal.range_from-requires
range_from-requires c =
    let at = rw c.as_bytes.ensures.value at c.in-Some.ensures.equals in
    λ _. IsCharBoundary-after_ascii c.args.text.now c.in-Some.at c.utf8.text at.0 (rw at.1 (omega arith))

pub returns-else-at-eq0 : goal.returns-else-at-eq0
returns-else-at-eq0 c =
    let at = rw c.as_bytes.ensures.value at c.in-Some.ensures in
    rw (c.range.ensures.value, c.range_from.ensures.value)
    (key_found c.args.text.now c.in-Some.at (omega (arith, c.if-at-eq0.false)) at.equals.0 at.cut)

pub returns-then-at-eq0 : goal.returns-then-at-eq0
returns-then-at-eq0 c =
    let at = rw c.as_bytes.ensures.value at c.in-Some.ensures.cut in
    key_empty c.args.text.now (rw c.if-at-eq0.true at at)

pub returns-in-None : goal.returns-in-None
returns-in-None c = key_none c.args.text.now (rw c.as_bytes.ensures.value at c.in-None.ensures.cut)
