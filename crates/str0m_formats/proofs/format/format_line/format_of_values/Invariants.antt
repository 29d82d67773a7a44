use Rattle.str0m_formats.proofs.Common.{◌≡◌, take}
use Rattle.str0m_formats.proofs.format.format_line.format_of_values.Given as goal
use Rattle.str0m_formats.specs.format.FormatLine.{params_of_lines, format_line_values}
use Rattle.str0m_formats.specs.format.FormatParams.{empty, set_all}

abbrev pub invariant-loop-line : goal.invariant-loop-line
invariant-loop-line l = l.format ≡ set_all empty (params_of_lines (format_line_values (take l.line-index l.lines)))
