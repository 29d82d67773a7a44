use Rattle.lint.proofs.Common.{on_ok_weaker}
use Rattle.lint.proofs.FateLaws.{adds_one_fate}
use Rattle.lint.proofs.round_notes.note_cause.Goals as goal
use Rattle.lint.specs.declared.code.Fate.TheVariants.{RefusedRound}

pub returns-clause-said : goal.returns-clause-said
returns-clause-said c =
    on_ok_weaker c.add.result (λ a. adds_one_fate c.args.line RefusedRound c.args.notes.now c.add.new.self a) c.add.ensures.one
