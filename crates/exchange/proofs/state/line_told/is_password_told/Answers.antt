use Rattle.exchange.proofs.Common.{sym, ◌∙◌}
use Rattle.exchange.proofs.state.LineToldLaws.{line_password_told}
use Rattle.exchange.proofs.state.line_told.is_password_told.Goals as goal

pub returns : goal.returns
returns c = λ is. line_password_told c.args.text.now (sym c.is_line_text.ensures ∙ is)
