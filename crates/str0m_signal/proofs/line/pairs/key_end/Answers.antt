use Rattle.str0m_signal.proofs.Common.{sym, ◌∙◌, arith}
use Rattle.str0m_signal.proofs.line.PairKeyLaws.{key_ends, key_blank, key_nowhere}
use Rattle.str0m_signal.proofs.line.pairs.key_end.Goals as goal

pub returns-then-byte-eq61-clause-cut : goal.returns-then-byte-eq61-clause-cut
returns-then-byte-eq61-clause-cut c = key_ends c.args.bytes.now c.loop-i.i c.loop-i-test.true c.if-byte-eq61.true c.loop-i.invariant

pub returns-then-is_pair_blank-clause-cut : goal.returns-then-is_pair_blank-clause-cut
returns-then-is_pair_blank-clause-cut c = key_blank c.args.bytes.now c.loop-i.i c.loop-i-test.true c.if-byte-eq61.false
    (sym c.is_pair_blank.ensures ∙ c.if-is_pair_blank.true) c.loop-i.invariant

pub returns-clause-cut : goal.returns-clause-cut
returns-clause-cut c = key_nowhere c.args.bytes.now (λ k lt. c.loop-i.invariant k (omega (arith, lt, c.loop-i-test.false)))
