use Rattle.exchange.proofs.Common.{◌≤◌, length, arith, sym, ◌∙◌, below_more, false≢true, true≢false}
use Rattle.exchange.proofs.section.RestartLaws.{no_restart}
use Rattle.exchange.proofs.section.restart.is_ice_restart.Goals as goal

pub loop-at-preserved : goal.loop-at-preserved
loop-at-preserved c =
    below_more _ _ c.loop-at.invariant (λ restarted. true≢false (sym (c.in_ok-is_restarted_at.ensures.1 restarted) ∙ c.if-branch.false))

pub returns : goal.returns
returns c =
    let past : length c.args.before.now.media_lines ≤ c.loop-at.at = omega (arith, c.len-at-end.ensures) in
    record {
      exact = (
        λ h. absurd (false≢true h),
        λ restart. absurd (no_restart c.args.before.now c.args.now.now c.loop-at.at past c.loop-at.invariant restart),
      );
    }
