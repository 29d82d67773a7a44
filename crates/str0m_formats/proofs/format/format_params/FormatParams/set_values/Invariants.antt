use Rattle.str0m_formats.proofs.Common.{◌≡◌, take}
use Rattle.str0m_formats.proofs.format.format_params.FormatParams.set_values.Given as goal
use Rattle.str0m_formats.specs.format.FormatLine.{line_without_event_ranges}
use Rattle.str0m_formats.specs.format.FormatParams.{set_all}

abbrev pub invariant-loop-param : goal.invariant-loop-param
invariant-loop-param l = l.self ≡ set_all l.fn.self (line_without_event_ranges (take l.param-index l.line))
