use Rattle.str0m_signal.proofs.line.FrontLaws.{number_ahead}
use Rattle.str0m_signal.proofs.line.front.number_in_front.Goals as goal

pub returns-in-Some : goal.returns-in-Some
returns-in-Some c =
    let found = rw c.as_bytes.ensures.value at c.in-Some.ensures in
    rw c.range_from.ensures.value (number_ahead c.args.limit c.args.text.now c.in-Some.number c.in-Some.at found.0 found.1
    (rw c.from.ensures at c.if-number-from.true))
