use Rattle.exchange.proofs.Common.{sym, ◌∙◌}
use Rattle.exchange.proofs.state.LineToldLaws.{line_options_told}
use Rattle.exchange.proofs.state.line_told.are_options_told.Goals as goal

pub returns : goal.returns
returns c = λ is. line_options_told c.args.text.now (sym c.is_line_text.ensures ∙ is)
