use Rattle.exchange.proofs.Common.{◌≡◌, map, take}
use Rattle.exchange.proofs.offer.offer_places.new_sections.Given as goal
use Rattle.exchange.specs.offer.OfferSection.{new_section}

-- the sections so far
abbrev pub invariant-loop-it : goal.invariant-loop-it
invariant-loop-it l = l.sections.items ≡ map (new_section l.exchange l.ready l.extensions) (take l.it-index l.placed)
