use Rattle.exchange.proofs.Common.{◌++◌, ◌∙◌, List, ℕ, ap, sym}
use Rattle.exchange.proofs.state.LineByLineLaws.{line_text_alike}
use Rattle.exchange.proofs.state.line_by_line.is_text_read_alike.Goals as goal
use Rattle.str0m_sdp.specs.form.Printed.{printed_line_end}

pub returns-in-Ok : goal.returns-in-Ok
returns-in-Ok c = λ is.
    let cases = c.in-Some.ensures.cases in
    let ends = cases.1.1 ∙ ap (λ (front : List ℕ). front ++ printed_line_end) (sym cases.2) in
    line_text_alike c.args.attr.now _ _ _ _ c.requires ends c.in-Ok.ensures.read (c.is_read_alike-is_alike.ensures is)
