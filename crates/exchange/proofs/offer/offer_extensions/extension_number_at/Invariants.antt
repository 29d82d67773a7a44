use Rattle.exchange.proofs.Common.{◌≡◌, filter_map, length, first}
use Rattle.exchange.proofs.offer.offer_extensions.extension_number_at.Given as goal
use Rattle.exchange.specs.offer.OfferExtensions.{extension_number_at, extension_number_of}

-- no line so far says the URI
abbrev pub invariant-loop-line : goal.invariant-loop-line
invariant-loop-line l = extension_number_at l.fn.uri l.fn.section ≡ first (filter_map (extension_number_of l.fn.uri) l.left)

abbrev pub decreases-loop-line : goal.decreases-loop-line
decreases-loop-line l = length l.left
