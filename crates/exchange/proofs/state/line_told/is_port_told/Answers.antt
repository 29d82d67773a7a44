use Rattle.exchange.proofs.state.LineToldLaws.{line_port_told}
use Rattle.exchange.proofs.state.line_told.is_port_told.Goals as goal

pub returns : goal.returns
returns c = λ is. line_port_told c.args.port c.ranges.port.fits
