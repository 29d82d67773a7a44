use Rattle.str0m_formats.proofs.Common.{refl, ◌∙◌, rules}
use Rattle.str0m_formats.proofs.round.ClaimedRanges.{claimed_find-flat_map_here, claimed_find-flat_map_more}
use Rattle.str0m_formats.proofs.round.claimed.first_unclaimed.Goals as goal
use Rattle.str0m_formats.specs.round.Claimed.{range_types, claim_order}

pub loop-first-init : goal.loop-first-init
unfolding claim_order
loop-first-init c = refl

pub returns-then-is_some : goal.returns-then-is_some
returns-then-is_some c = claimed_find-flat_map_here _ range_types _ c.loop-first.first-index (0, 0) c.first_unclaimed_in-found.result
    c.loop-first-test.true
    c.first_unclaimed_in-found.ensures (search rules) ∙ c.loop-first.invariant

pub loop-first-preserved : goal.loop-first-preserved
loop-first-preserved c = claimed_find-flat_map_more _ range_types _ c.loop-first.first-index (0, 0) c.first_unclaimed_in-found.result
    c.loop-first-test.true
    c.first_unclaimed_in-found.ensures (search rules) ∙ c.loop-first.invariant
