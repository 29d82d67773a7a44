use Rattle.str0m_signal.proofs.Common.{◌≡◌, take}
use Rattle.str0m_signal.proofs.line.heads.types_numbered.Given as goal

-- the types so far are those of the numbers so far
abbrev pub invariant-loop-number : goal.invariant-loop-number
invariant-loop-number l = l.types.items ≡ take l.number-index l.numbers
