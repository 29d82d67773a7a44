use Rattle.exchange.proofs.Common.{◌≡◌, ◌++◌, filter_map, length, zip}
use Rattle.exchange.proofs.answer.bundle.answered_bundle_names.Given as goal
use Rattle.exchange.specs.answer.Bundle.{answered_bundle_name}

-- the names so far, then those of what is left
abbrev pub invariant-loop-section : goal.invariant-loop-section
invariant-loop-section l =
    filter_map answered_bundle_name (zip l.fn.sections l.fn.accepted) ≡ l.names.items
    ++ filter_map answered_bundle_name (zip l.left l.marks)

abbrev pub decreases-loop-section : goal.decreases-loop-section
decreases-loop-section l = length l.left
