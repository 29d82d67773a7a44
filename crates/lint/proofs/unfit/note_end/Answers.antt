use Rattle.lint.proofs.Common.{on_ok_weaker}
use Rattle.lint.proofs.NoteLaws.{one_end_noted}
use Rattle.lint.proofs.unfit.note_end.Goals as goal

pub returns-clause-ends : goal.returns-clause-ends
returns-clause-ends c = λ here.
    on_ok_weaker c.add.result (λ a. one_end_noted c.args.number c.fault-unfit.result.0 c.args.notes.now c.add.new.self here a
    c.add.ensures.last)
    c.add.ensures.one
