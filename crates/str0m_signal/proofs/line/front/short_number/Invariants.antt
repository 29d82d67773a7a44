use Rattle.str0m_signal.proofs.Common.{◌≡◌, take, AllDigits, digits_value, LacksCutAt}
use Rattle.str0m_signal.proofs.line.front.short_number.Given as goal

-- the bytes so far are digits that write the number
abbrev pub invariant-loop-i : goal.invariant-loop-i
invariant-loop-i l = AllDigits 10 (take l.i l.bytes) × (l.number ≡ digits_value 10 (take l.i l.bytes)) × LacksCutAt 32 l.bytes l.i
