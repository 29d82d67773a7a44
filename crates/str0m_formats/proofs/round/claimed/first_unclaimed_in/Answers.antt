use Rattle.str0m_formats.proofs.Common.{sym, ◌∙◌, ◌+◌, arith, nat_tests}
use Rattle.str0m_formats.proofs.round.ClaimedRanges.{find-range_more}
use Rattle.str0m_formats.proofs.round.claimed.first_unclaimed_in.Goals as goal

pub loop-t-preserved : goal.loop-t-preserved
loop-t-preserved c = sym (find-range_more _ c.loop-t.t (c.args.last + 1) c.loop-t-test.true (grind (arith, nat_tests))) ∙ c.loop-t.invariant
