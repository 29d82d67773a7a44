use Rattle.str0m_signal.proofs.Common.{◌++◌, List, ℕ, sym, ap, ◌∙◌, printed_line_end}
use Rattle.str0m_signal.proofs.back.ReadBackLaws.{ended_content, other_read_back_content}
use Rattle.str0m_signal.proofs.back.read_back.line_content.Goals as goal

pub returns-then-has_no_end : goal.returns-then-has_no_end
returns-then-has_no_end c =
    let cases = c.in_ok-line.ensures.cases in
    let ends = cases.1.1 ∙ ap (λ (front : List ℕ). front ++ printed_line_end) (sym cases.2) in
    ended_content _ _ ends (sym c.has_no_end.ensures ∙ c.if-has_no_end.true)

pub returns-else-has_no_end : goal.returns-else-has_no_end
returns-else-has_no_end c =
    let cases = c.in_ok-line.ensures.cases in
    let ends = cases.1.1 ∙ ap (λ (front : List ℕ). front ++ printed_line_end) (sym cases.2) in
    other_read_back_content _ _ ends (sym c.has_no_end.ensures ∙ c.if-has_no_end.false)
