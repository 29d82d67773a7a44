use Rattle.str0m_signal.proofs.line.pairs.value_end.Given as goal
use Rattle.str0m_signal.specs.form.FmtpReading.{NoneEnds}

-- a value ends at none of the bytes so far
abbrev pub invariant-loop-i : goal.invariant-loop-i
invariant-loop-i l = NoneEnds l.bytes l.i
