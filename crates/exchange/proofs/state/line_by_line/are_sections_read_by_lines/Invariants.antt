use Rattle.exchange.proofs.Common.{All, take}
use Rattle.exchange.proofs.state.line_by_line.are_sections_read_by_lines.Given as goal
use Rattle.exchange.specs.state.LineByLine.{IsSectionReadByLines}

-- those so far are read so
abbrev pub invariant-loop-section : goal.invariant-loop-section
invariant-loop-section l = All IsSectionReadByLines (take l.section-index l.sections)
