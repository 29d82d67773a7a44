use Rattle.exchange.proofs.state.LineByLineLaws.{line_by_line_back}
use Rattle.exchange.proofs.state.exchange.exchange_copy_read_back.Goals as goal

pub returns-then-branch : goal.returns-then-branch
returns-then-branch c = (
  c.in_ok-clone.ensures,
  line_by_line_back c.args.version c.args.sdp.now c.ranges.version.fits c.session_number.ensures.range
      (c.in_ok-is_read_by_lines.ensures c.if-branch.true),
)
