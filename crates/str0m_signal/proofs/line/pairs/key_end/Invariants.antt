use Rattle.str0m_signal.proofs.line.pairs.key_end.Given as goal
use Rattle.str0m_signal.specs.form.FmtpReading.{NoneEndsKey}

-- no key ends among the bytes so far
abbrev pub invariant-loop-i : goal.invariant-loop-i
invariant-loop-i l = NoneEndsKey l.bytes l.i
