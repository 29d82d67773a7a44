use Rattle.exchange.proofs.Common.{◌≡◌, ◌++◌, length}
use Rattle.exchange.proofs.offer.added.offer_placed_under.Given as goal
use Rattle.exchange.specs.offer.Added.{offer_placed_under}

-- what is placed so far, then what is left
abbrev pub invariant-loop-mid : goal.invariant-loop-mid
invariant-loop-mid l = offer_placed_under l.fn.names l.fn.added ≡ l.placed.items ++ offer_placed_under l.left l.more

abbrev pub decreases-loop-mid : goal.decreases-loop-mid
decreases-loop-mid l = length l.left
