use Rattle.str0m_sdp.proofs.Common.{◌≡◌, ◌++◌, ℕ, List, length}
use Rattle.str0m_sdp.proofs.session.ordered_mids.find_mid_again.Given as goal
use Rattle.str0m_sdp.specs.session.OrderedMids.{HoldsMids}
use Rattle.str0m_sdp.specs.session.SessionFault.{first_mid_again}

-- of the mids that were passed, the first that stands again, and all of them by name
abbrev pub invariant-loop-mid : goal.invariant-loop-mid
invariant-loop-mid l =
    (passed : List (List ℕ)) × (l.initial.left ≡ l.left ++ passed) × (l.found ≡ first_mid_again passed) × HoldsMids l.later passed

abbrev pub decreases-loop-mid : goal.decreases-loop-mid
decreases-loop-mid l = length l.left
