use Rattle.exchange.proofs.Common.{sym, ◌∙◌}
use Rattle.exchange.proofs.state.LineToldLaws.{line_ufrag_told}
use Rattle.exchange.proofs.state.line_told.is_ufrag_told.Goals as goal

pub returns : goal.returns
returns c = λ is. line_ufrag_told c.args.text.now (sym c.is_line_text.ensures ∙ is)
