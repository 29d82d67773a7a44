use Rattle.exchange.proofs.state.LineToldLaws.{line_size_told}
use Rattle.exchange.proofs.state.line_told.is_size_told.Goals as goal

pub returns : goal.returns
returns c = λ is. line_size_told c.args.size c.ranges.size.fits
