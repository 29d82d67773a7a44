use Rattle.lint.proofs.Common.{sym}
use Rattle.lint.proofs.LineLaws.{line_at_feed}
use Rattle.lint.proofs.lines.next_line.Goals as goal
use Rattle.str0m_signal.proofs.{part_cut_shorter}

pub returns-in-Some-clause-line : goal.returns-in-Some-clause-line
returns-in-Some-clause-line c =
    line_at_feed c.args.text.now c.in-Some.line.now c.in-Some.rest.now c.line_without_return.result.now c.in-Some.ensures
    c.line_without_return.ensures

pub returns-in-Some-clause-shorter : goal.returns-in-Some-clause-shorter
returns-in-Some-clause-shorter c = part_cut_shorter 10 c.args.text.now c.in-Some.line.now c.in-Some.rest.now (sym c.in-Some.ensures)
