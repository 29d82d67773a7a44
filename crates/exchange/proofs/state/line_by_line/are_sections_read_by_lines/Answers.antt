use Rattle.exchange.proofs.Common.{arith}
use Rattle.exchange.proofs.state.LineByLineLaws.{line_all_more, line_all_seen}
use Rattle.exchange.proofs.state.line_by_line.are_sections_read_by_lines.Goals as goal
use Rattle.exchange.specs.state.LineByLine.{IsSectionReadByLines}

pub loop-section-preserved : goal.loop-section-preserved
loop-section-preserved c =
    line_all_more IsSectionReadByLines c.args.sections.now c.loop-section.section-index c.section-item.result c.loop-section-test.true
    c.section-item.is
    (c.in_ok-is_section_read_by_lines.ensures c.if-not-branch.false)
    c.loop-section.invariant

pub returns : goal.returns
returns c = λ seen. line_all_seen IsSectionReadByLines c.args.sections.now c.loop-section.section-index
    (omega (arith, c.loop-section-test.false)) c.loop-section.invariant
