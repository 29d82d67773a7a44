use Rattle.exchange.proofs.Common.{◌≡◌, ◌++◌, length}
use Rattle.exchange.proofs.offer.offer_extensions.extension_lines.Given as goal
use Rattle.exchange.specs.offer.OfferExtensions.{extension_lines, numbered_extension_lines}

-- the lines so far, then those of what is left
abbrev pub invariant-loop-uri : goal.invariant-loop-uri
invariant-loop-uri l = extension_lines l.fn.said l.fn.known ≡ l.lines.items ++ numbered_extension_lines l.fn.said l.last l.left

abbrev pub decreases-loop-uri : goal.decreases-loop-uri
decreases-loop-uri l = length l.left
