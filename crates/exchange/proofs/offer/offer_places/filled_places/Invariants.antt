use Rattle.exchange.proofs.Common.{take}
use Rattle.exchange.proofs.offer.offer_places.filled_places.Given as goal
use Rattle.exchange.specs.offer.OfferPlaces.{FillsPlaces}

-- the places so far, and what is left of what is added
abbrev pub invariant-loop-at : goal.invariant-loop-at
invariant-loop-at l = FillsPlaces l.exchange l.ready 0 (take l.at l.places) l.fn.added l.sections.items l.left
