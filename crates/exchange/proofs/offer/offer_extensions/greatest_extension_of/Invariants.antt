use Rattle.exchange.proofs.Common.{◌≡◌, length}
use Rattle.exchange.proofs.offer.offer_extensions.greatest_extension_of.Given as goal
use Rattle.exchange.specs.offer.OfferExtensions.{greatest_extension_of}

-- the greatest so far, beside those of what is left
abbrev pub invariant-loop-line : goal.invariant-loop-line
invariant-loop-line l = greatest_extension_of l.fn.least l.fn.lines ≡ greatest_extension_of l.greatest l.left

abbrev pub decreases-loop-line : goal.decreases-loop-line
decreases-loop-line l = length l.left
