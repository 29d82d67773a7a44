use Rattle.str0m_signal.proofs.back.WritableLaws.{OtherLinesBefore}
use Rattle.str0m_signal.proofs.back.writable.others_come_back.Given as goal

-- the sections so far come back
abbrev pub invariant-loop-i : goal.invariant-loop-i
invariant-loop-i l = OtherLinesBefore l.sections l.own l.i
