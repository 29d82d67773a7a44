use Rattle.lint.proofs.Common.{on_ok_weaker}
use Rattle.lint.proofs.NoteLaws.{changes_one}
use Rattle.lint.proofs.changes.note_change.Goals as goal

pub returns-clause-only : goal.returns-clause-only
returns-clause-only c =
    on_ok_weaker c.add.result (λ a. changes_one c.args.number c.args.change c.args.notes.now c.add.new.self a) c.add.ensures.one
