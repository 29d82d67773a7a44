use Rattle.str0m_values.proofs.Common.{◌≡◌, drop}
use Rattle.str0m_values.proofs.cuts.begins_with.Given as goal
use Rattle.str0m_values.specs.Cuts.{strip}

-- the bytes so far are those of the prefix
abbrev pub invariant-loop-i : goal.invariant-loop-i
invariant-loop-i l = strip (drop l.i l.prefix) (drop l.i l.bytes) ≡ strip l.prefix l.bytes
