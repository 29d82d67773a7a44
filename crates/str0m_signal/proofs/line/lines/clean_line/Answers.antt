use Rattle.str0m_signal.proofs.Common.{ℕ, List, Option, Some, ap, sym, ◌∙◌, ◌>>=◌}
use Rattle.str0m_signal.proofs.line.LinesEndLaws.{line_none_of_none, rest_from, clean_line_cut}
use Rattle.str0m_signal.proofs.line.lines.clean_line.Goals as goal
use Rattle.str0m_signal.specs.line.Lines.{Line}
use Rattle.str0m_signal.specs.line.LinesReading.{lines_of}

pub returns-then-is_empty : goal.returns-then-is_empty
returns-then-is_empty c = line_none_of_none c.args.text.now (sym c.is_empty.ensures ∙ c.if-is_empty.true)

abbrev with_rest : List ℕ → Option (List ℕ) → Option (List ℕ × List Line)
with_rest line found = found >>= λ rest. Some (line, lines_of rest)

pub returns-in-Some : goal.returns-in-Some
returns-in-Some c =
    let text = c.args.text.now in
    let front = c.cut_at_end.result.0.now in
    let end = c.cut_at_end.ensures in
    ap (with_rest front) c.in-Some.ensures
    ∙ clean_line_cut text front c.cut_at_end.result.1.now end.whole end.no_feed end.no_return end.stops
    (rest_from text (sym c.is_empty.ensures ∙ c.if-is_empty.false))

pub returns-in-None : goal.returns-in-None
returns-in-None c =
    let text = c.args.text.now in
    let front = c.cut_at_end.result.0.now in
    let end = c.cut_at_end.ensures in
    ap (with_rest front) c.in-None.ensures
    ∙ clean_line_cut text front c.cut_at_end.result.1.now end.whole end.no_feed end.no_return end.stops
    (rest_from text (sym c.is_empty.ensures ∙ c.if-is_empty.false))
