use Rattle.exchange.proofs.Common.{All, take}
use Rattle.exchange.proofs.state.line_by_line.are_session_lines_read.Given as goal
use Rattle.exchange.specs.state.LineByLine.{IsSessionLineRead}

-- those so far are read so
abbrev pub invariant-loop-attr : goal.invariant-loop-attr
invariant-loop-attr l = All IsSessionLineRead (take l.attr-index l.attrs)
