use Rattle.exchange.proofs.Common.{arith}
use Rattle.exchange.proofs.state.LineByLineLaws.{line_all_more, line_all_seen}
use Rattle.exchange.proofs.state.line_by_line.are_lines_read_alike.Goals as goal
use Rattle.exchange.specs.state.LineByLine.{IsLineReadAlike}

pub loop-attr-preserved : goal.loop-attr-preserved
loop-attr-preserved c =
    line_all_more IsLineReadAlike c.args.attrs.now c.loop-attr.attr-index c.attr-item.result c.loop-attr-test.true c.attr-item.is
    (c.in_ok-is_line_read_alike.ensures c.if-not-branch.false)
    c.loop-attr.invariant

pub returns : goal.returns
returns c = λ seen. line_all_seen IsLineReadAlike c.args.attrs.now c.loop-attr.attr-index (omega (arith, c.loop-attr-test.false))
    c.loop-attr.invariant
