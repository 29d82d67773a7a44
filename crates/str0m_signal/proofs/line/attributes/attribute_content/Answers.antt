use Rattle.str0m_signal.proofs.Common.{ℕ, List, Option, Some, ap, sym, ◌∙◌, ◌>>=◌}
use Rattle.str0m_signal.proofs.line.AttributesLaws.{no_attribute_content, attribute_content_cut}
use Rattle.str0m_signal.proofs.line.attributes.attribute_content.Goals as goal
use Rattle.str0m_signal.specs.line.Lines.{Line}
use Rattle.str0m_signal.specs.line.LinesReading.{lines_of}

pub returns-in_default : goal.returns-in_default
returns-in_default c = no_attribute_content c.args.text.now (sym c.in_default.ensures)

abbrev with_rest : List ℕ → Option (List ℕ) → Option (List ℕ × List Line)
with_rest content found = found >>= λ rest. Some (content, lines_of rest)

pub returns-in-Some-behind_end : goal.returns-in-Some-behind_end
returns-in-Some-behind_end c =
    let cut = c.cut_at_end.result in
    let end = c.cut_at_end.ensures in
    ap (with_rest cut.0.now) c.in-Some-behind_end.ensures
    ∙ attribute_content_cut c.args.text.now c.in-Some.body.now cut.0.now cut.1.now (sym c.in-Some.ensures)
    end.whole end.no_feed end.no_return end.stops

pub returns-in-None : goal.returns-in-None
returns-in-None c =
    let cut = c.cut_at_end.result in
    let end = c.cut_at_end.ensures in
    ap (with_rest cut.0.now) c.in-None.ensures
    ∙ attribute_content_cut c.args.text.now c.in-Some.body.now cut.0.now cut.1.now (sym c.in-Some.ensures)
    end.whole end.no_feed end.no_return end.stops
