use Rattle.c_parts.proofs.row.rows_of.Given as goal
use Rattle.c_parts.specs.Row.{c_row}
use Rattle.std.specs.Prelude.{◌≡◌, take, map}

-- the rows so far
abbrev pub invariant-loop-row : goal.invariant-loop-row
invariant-loop-row l = l.made.items ≡ map c_row (take l.row-index l.rows)
