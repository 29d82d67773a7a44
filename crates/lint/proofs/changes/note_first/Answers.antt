use Rattle.lint.proofs.Common.{on_ok_weaker}
use Rattle.lint.proofs.NoteLaws.{changes_one, says_change}
use Rattle.lint.proofs.changes.note_first.Goals as goal
use Rattle.lint.specs.declared.code.Change.TheVariants.{Spelling}

pub returns-clause-only : goal.returns-clause-only
returns-clause-only c =
    on_ok_weaker c.add.result (λ a. changes_one c.args.number Spelling c.args.notes.now c.add.new.self a) c.add.ensures.one

pub returns-clause-said : goal.returns-clause-said
returns-clause-said c =
    on_ok_weaker c.add.result (λ a. says_change c.args.number Spelling c.args.notes.now c.add.new.self a) c.add.ensures.one
