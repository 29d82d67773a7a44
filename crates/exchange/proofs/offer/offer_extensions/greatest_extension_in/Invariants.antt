use Rattle.exchange.proofs.Common.{◌≡◌, length}
use Rattle.exchange.proofs.offer.offer_extensions.greatest_extension_in.Given as goal
use Rattle.exchange.specs.offer.OfferExtensions.{greatest_extension_in}

-- the greatest so far, beside those of what is left
abbrev pub invariant-loop-section : goal.invariant-loop-section
invariant-loop-section l = greatest_extension_in 0 l.fn.said ≡ greatest_extension_in l.greatest l.left

abbrev pub decreases-loop-section : goal.decreases-loop-section
decreases-loop-section l = length l.left
