use Rattle.str0m_formats.proofs.Common.{arith, take_all, length-set, on_err_weaker}
use Rattle.str0m_formats.proofs.round.RoundsRunLaws.{run_promised}
use Rattle.str0m_formats.proofs.round.RoundsRunSteps.{rounds_ran_from, run_reached_step}
use Rattle.str0m_formats.proofs.row.codec_config.CodecConfig.update_all.Goals as goal

pub loop-i-preserved : goal.loop-i-preserved
loop-i-preserved c = grind (arith, rounds_ran_from, on_err_weaker, run_reached_step, length-set)

pub returns-clause-else_same : goal.returns-clause-else_same
returns-clause-else_same c = c.loop-i.invariant.2

pub returns-clause-ok : goal.returns-clause-ok
returns-clause-ok c = grind (arith, take_all)

pub returns-clause-promises : goal.returns-clause-promises
returns-clause-promises c = run_promised c.args.self.now.params.items c.args.rounds.now c.loop-i.outcomes.items c.loop-i.self.params.items
    (returns-clause-ok c)

pub returns-clause-every_run : goal.returns-clause-every_run
returns-clause-every_run c = run_promised c.args.self.now.params.items

pub returns-in_err-outcomes-clause-every_run : goal.returns-in_err-outcomes-clause-every_run
returns-in_err-outcomes-clause-every_run c = run_promised c.args.self.now.params.items
