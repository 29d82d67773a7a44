use Rattle.exchange.proofs.Common.{◌≡◌, length}
use Rattle.exchange.proofs.offer.offer_extensions.extension_number_in.Given as goal
use Rattle.exchange.specs.offer.OfferExtensions.{extension_number_in}

-- no section so far says the URI
abbrev pub invariant-loop-section : goal.invariant-loop-section
invariant-loop-section l = extension_number_in l.fn.said l.fn.uri ≡ extension_number_in l.left l.fn.uri

abbrev pub decreases-loop-section : goal.decreases-loop-section
decreases-loop-section l = length l.left
