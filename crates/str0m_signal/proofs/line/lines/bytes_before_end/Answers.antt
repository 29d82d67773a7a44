use Rattle.std.proofs.Common.{refl, arith}
use Rattle.str0m_signal.proofs.line.LinesNearEnd.{no_end_ahead}
use Rattle.str0m_signal.proofs.line.lines.bytes_before_end.Goals as goal

pub returns-clause-none : goal.returns-clause-none
returns-clause-none c = no_end_ahead c.args.bytes.now c.args.from _
    (omega (arith, c.if-saturating_sub-lt-NEAR_BYTES.false, c.saturating_sub.ensures)) refl
