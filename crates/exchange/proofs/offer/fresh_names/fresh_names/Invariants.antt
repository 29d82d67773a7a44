use Rattle.exchange.proofs.Common.{◌≤◌, ◌-◌, length}
use Rattle.exchange.proofs.offer.fresh_names.fresh_names.Given as goal
use Rattle.exchange.specs.offer.FreshNames.{AreFresh}

-- the names so far, and no more than are asked for
abbrev pub invariant-loop-alloc : goal.invariant-loop-alloc
invariant-loop-alloc l = record { fresh : AreFresh l.taken 0 l.names l.from; most : length l.names ≤ l.count }

abbrev pub decreases-loop-alloc : goal.decreases-loop-alloc
decreases-loop-alloc l = l.count - length l.names
