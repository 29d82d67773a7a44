use Rattle.exchange.proofs.state.LineByLineLaws.{line_section_told}
use Rattle.exchange.proofs.state.line_by_line.is_section_read_by_lines.Goals as goal

pub returns : goal.returns
returns c =
    line_section_told c.are_lines_read_alike.result c.args.section.now c.as_slice.result.now c.as_slice.ensures
    (c.in_ok-is_frame_told.ensures c.if-not-branch.false)
    c.are_lines_read_alike.ensures
