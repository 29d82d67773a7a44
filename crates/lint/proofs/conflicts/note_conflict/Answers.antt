use Rattle.lint.proofs.Common.{on_ok_weaker}
use Rattle.lint.proofs.NoteLaws.{one_conflict_noted}
use Rattle.lint.proofs.conflicts.note_conflict.Goals as goal

pub returns-clause-others : goal.returns-clause-others
returns-clause-others c =
    on_ok_weaker c.add.result (λ a. one_conflict_noted c.args.number c.args.conflict c.args.notes.now c.add.new.self a) c.add.ensures.one
