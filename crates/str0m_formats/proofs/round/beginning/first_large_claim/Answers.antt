use Rattle.str0m_formats.proofs.Common.{find, nat_lt, ap, ◌∙◌, rules}
use Rattle.str0m_formats.proofs.round.ClaimedRanges.{claimed_find-flat_map_here, claimed_find-flat_map_more}
use Rattle.str0m_formats.proofs.round.beginning.first_large_claim.Goals as goal
use Rattle.str0m_formats.specs.row.PayloadParams.{types_of}

pub returns-then-is_some : goal.returns-then-is_some
returns-then-is_some c =
    claimed_find-flat_map_here (nat_lt 127) types_of c.args.rows.now c.loop-row.row-index c.row-item.result
    c.first_large_claim_of-large.result
    c.loop-row-test.true
    (c.first_large_claim_of-large.ensures ∙ ap (λ r. find (nat_lt 127) (types_of r)) c.row-item.is) (search rules) ∙ c.loop-row.invariant

pub loop-row-preserved : goal.loop-row-preserved
loop-row-preserved c =
    claimed_find-flat_map_more (nat_lt 127) types_of c.args.rows.now c.loop-row.row-index c.row-item.result
    c.first_large_claim_of-large.result
    c.loop-row-test.true
    (c.first_large_claim_of-large.ensures ∙ ap (λ r. find (nat_lt 127) (types_of r)) c.row-item.is) (search rules) ∙ c.loop-row.invariant
