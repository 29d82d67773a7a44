use Rattle.c_calls.proofs.round_calls.fill_round_outcomes.Given as goal
use Rattle.c_parts.specs.Row.{c_outcome}
use Rattle.std.specs.Prelude.{◌≡◌, length, map, take}

-- the outcomes so far stand in the room, which is as large as it was
abbrev pub invariant-loop-i : goal.invariant-loop-i
invariant-loop-i l = (take l.i l.room ≡ map c_outcome (take l.i l.outcomes)) × (length l.room ≡ length l.fn.room)
