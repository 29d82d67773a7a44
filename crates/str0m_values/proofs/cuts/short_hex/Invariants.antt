use Rattle.str0m_values.proofs.Common.{◌≡◌, take, AllDigits, digits_value}
use Rattle.str0m_values.proofs.cuts.short_hex.Given as goal

abbrev pub invariant-loop-i : goal.invariant-loop-i
invariant-loop-i l = AllDigits 16 (take l.i l.digits) × (l.number ≡ digits_value 16 (take l.i l.digits))
