use Rattle.c_parts.proofs.rid.rids_among.Given as goal
use Rattle.c_parts.specs.Rid.{c_rid}
use Rattle.std.specs.Prelude.{◌≡◌, filter_map, take}

-- the rids so far
abbrev pub invariant-loop-line : goal.invariant-loop-line
invariant-loop-line l = l.made.items ≡ filter_map c_rid (take l.line-index l.lines)
