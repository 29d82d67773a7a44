use Rattle.str0m_formats.proofs.Common.{ap, ◌∙◌}
use Rattle.str0m_formats.proofs.format.FormatLineLaws.{format_line_values_more}
use Rattle.str0m_formats.proofs.format.format_line.format_of_values.Goals as goal
use Rattle.str0m_formats.specs.format.FormatLine.{line_without_event_ranges}
use Rattle.str0m_formats.specs.format.FormatParams.{set_all}

pub loop-line-preserved : goal.loop-line-preserved
loop-line-preserved c = c.set_values.ensures ∙ ap (λ p. set_all p (line_without_event_ranges c.line-item.result.now)) c.loop-line.invariant
    ∙ rw c.line-item.is (format_line_values_more c.args.lines.now c.loop-line.line-index _ c.loop-line-test.true)
