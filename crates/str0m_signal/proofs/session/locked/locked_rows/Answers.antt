use Rattle.str0m_signal.proofs.Common.{◌&&◌, IfOk-weaker}
use Rattle.str0m_signal.proofs.session.LockedPicked.{locked_printable_as}
use Rattle.str0m_signal.proofs.session.locked.locked_rows.Goals as goal
use Rattle.str0m_signal.specs.session.Locked.{is_carried_by_section}

pub returns-clause-printable : goal.returns-clause-printable
returns-clause-printable c = λ may.
    IfOk-weaker c.locked_among.result _ _
    (λ rows. locked_printable_as (λ row. row.locked && is_carried_by_section c.args.kind row) c.args.config.now.params.items rows.items may)
    (rw c.params.ensures at c.locked_among.ensures)
