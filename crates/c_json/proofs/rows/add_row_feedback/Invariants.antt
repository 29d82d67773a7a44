use Rattle.c_json.proofs.rows.add_row_feedback.Given as goal
use Rattle.std.proofs.Common.{◌≡◌}

-- the list is still open
abbrev pub invariant-loop-is_on : goal.invariant-loop-is_on
invariant-loop-is_on l = l.json ≡ l.initial.json
