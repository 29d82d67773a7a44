use Rattle.str0m_signal.proofs.Common.{arith, IsCharBoundary-after_ascii}
use Rattle.str0m_signal.proofs.line.FrontLaws.{number_cut}
use Rattle.str0m_signal.proofs.line.front.number_and_rest.Goals as goal

pub returns-in-Some : goal.returns-in-Some
returns-in-Some c =
    let found = rw c.as_bytes.ensures.value at c.in-Some.ensures in
    rw c.range_from.ensures.value (number_cut c.args.limit c.args.text.now c.in-Some.number c.in-Some.at found.0 found.1
    (rw c.from.ensures at c.if-number-from.true))

pub range_from-requires : goal.range_from-requires
range_from-requires c =
    let found = rw c.as_bytes.ensures.value at c.in-Some.ensures in
    λ _. IsCharBoundary-after_ascii c.args.text.now c.in-Some.at c.utf8.text found.0.0 (rw found.0.1 (omega arith))
