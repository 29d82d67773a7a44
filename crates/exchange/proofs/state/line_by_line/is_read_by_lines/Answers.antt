use Rattle.exchange.proofs.state.LineByLineLaws.{line_whole_told}
use Rattle.exchange.proofs.state.line_by_line.is_read_by_lines.Goals as goal

pub returns : goal.returns
returns c =
    line_whole_told c.are_sections_read_by_lines.result c.args.sdp.now c.as_slice.result.now c.as_slice-2.result.now c.as_slice.ensures
    c.as_slice-2.ensures
    (c.says_no_bandwidth.ensures c.if-not-says_no_bandwidth.false)
    (c.in_ok-are_session_lines_read.ensures c.if-not-branch.false)
    c.are_sections_read_by_lines.ensures
