use Rattle.show.proofs.negotiation_lines.outcome_lines.Given as goal
use Rattle.show.specs.NegotiationLines.{outcome_lines}
use Rattle.std.proofs.Common.{◌≡◌, take}
use Rattle.std.specs.String.{string_bytes}

-- the lines of the outcomes so far are there
abbrev pub invariant-loop-i : goal.invariant-loop-i
invariant-loop-i l = string_bytes l.text ≡ outcome_lines 1 (take l.i l.fn.outcomes)
