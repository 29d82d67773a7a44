use Rattle.c_json.proofs.lists.add_list.Given as goal
use Rattle.std.proofs.Common.{◌≡◌}

-- the list is still open
abbrev pub invariant-loop-attr : goal.invariant-loop-attr
invariant-loop-attr g l = l.json ≡ l.initial.json
