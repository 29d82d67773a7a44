use Rattle.exchange.proofs.Common.{◌≡◌, ◌∙◌, List, ℕ, subst, sym, true}
use Rattle.exchange.proofs.state.LineToldLaws.{line_mid_told}
use Rattle.exchange.proofs.state.line_told.is_mid_told.Goals as goal
use Rattle.exchange.specs.state.LineByLine.{is_line_text}

pub returns : goal.returns
returns c = λ is.
    line_mid_told c.args.mid c.as_str.ensures.fits
    (subst (λ (text : List ℕ). is_line_text text ≡ true) c.as_str.ensures.value (sym c.is_line_text.ensures ∙ is))
