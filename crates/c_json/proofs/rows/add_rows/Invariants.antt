use Rattle.c_json.proofs.rows.add_rows.Given as goal
use Rattle.std.proofs.Common.{◌≡◌}

-- the list is still open
abbrev pub invariant-loop-row : goal.invariant-loop-row
invariant-loop-row l = l.json ≡ l.initial.json
