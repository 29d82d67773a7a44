use Rattle.exchange.proofs.Common.{ℕ, ◌<◌}
use Rattle.exchange.proofs.section.places.first_moved_place.Given as goal
use Rattle.exchange.specs.section.Places.{StaysInPlaceAt}

-- the sections so far are in their places
abbrev pub invariant-loop-at : goal.invariant-loop-at
invariant-loop-at l = (k : ℕ) → k < l.at → StaysInPlaceAt l.had l.local l.remote l.offer k
