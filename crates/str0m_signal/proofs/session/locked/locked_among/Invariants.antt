use Rattle.str0m_signal.proofs.Common.{◌≡◌, take}
use Rattle.str0m_signal.proofs.session.locked.locked_among.Given as goal
use Rattle.str0m_signal.specs.session.Locked.{locked_of_kind}

-- copies of those so far that are locked and of the kind
abbrev pub invariant-loop-row : goal.invariant-loop-row
invariant-loop-row l = l.locked.items ≡ locked_of_kind l.kind (take l.row-index l.rows)
