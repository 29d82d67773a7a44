use Rattle.show.proofs.negotiation_lines.append_negotiation_states.Given as goal
use Rattle.show.specs.NegotiationLines.{state_line}
use Rattle.std.proofs.Common.{◌≡◌, ◌++◌, take}
use Rattle.std.specs.List.{flat_map}
use Rattle.std.specs.String.{string_bytes}

-- the lines of the rows so far are appended
abbrev pub invariant-loop-row : goal.invariant-loop-row
invariant-loop-row l = string_bytes l.text ≡ string_bytes l.initial.text ++ flat_map state_line (take l.row-index l.fn.rows)
