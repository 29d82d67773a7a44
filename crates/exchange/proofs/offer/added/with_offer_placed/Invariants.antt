use Rattle.exchange.proofs.Common.{◌≡◌, ◌++◌, filter_map, take}
use Rattle.exchange.proofs.offer.added.with_offer_placed.Given as goal
use Rattle.exchange.specs.offer.Added.{placed_direction}

-- the directions of what is placed so far, after the others
abbrev pub invariant-loop-it : goal.invariant-loop-it
invariant-loop-it l = l.after.items ≡ l.entries ++ filter_map placed_direction (take l.it-index l.placed)
