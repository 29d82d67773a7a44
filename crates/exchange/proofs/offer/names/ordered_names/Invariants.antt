use Rattle.exchange.proofs.Common.{take, HoldsMids}
use Rattle.exchange.proofs.offer.names.ordered_names.Given as goal

-- the names so far
abbrev pub invariant-loop-mid : goal.invariant-loop-mid
invariant-loop-mid l = HoldsMids l.names (take l.mid-index l.mids)
