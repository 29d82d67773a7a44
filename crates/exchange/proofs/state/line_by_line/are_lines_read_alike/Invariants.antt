use Rattle.exchange.proofs.Common.{All, take}
use Rattle.exchange.proofs.state.line_by_line.are_lines_read_alike.Given as goal
use Rattle.exchange.specs.state.LineByLine.{IsLineReadAlike}

-- those so far are read so
abbrev pub invariant-loop-attr : goal.invariant-loop-attr
invariant-loop-attr l = All IsLineReadAlike (take l.attr-index l.attrs)
