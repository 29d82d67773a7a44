use Rattle.exchange.proofs.Common.{◌≡◌, ◌++◌, filter, take}
use Rattle.exchange.proofs.section.repeated_lines.push_repeated.Given as goal
use Rattle.exchange.specs.section.RepeatedLines.{is_repeated}

-- those so far that are repeated stand after the others
abbrev pub invariant-loop-line : goal.invariant-loop-line
invariant-loop-line l = l.lines.items ≡ l.initial.lines.items ++ filter (is_repeated l.known) (take l.line-index l.offered.attrs)
