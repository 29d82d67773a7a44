use Rattle.exchange.proofs.Common.{◌≡◌, length, take, Alike}
use Rattle.exchange.proofs.state.CopiedOverLaws.{CopiedFromOn}
use Rattle.exchange.proofs.state.copied_over.copy_over_lines.Given as goal

-- the lines so far are equal, there are as many as there were, and the others are as they were
abbrev pub invariant-loop-i : goal.invariant-loop-i
invariant-loop-i l = (take l.i l.lines.items ≡ take l.i l.sources) × (length l.lines.items ≡ length l.sources)
    × CopiedFromOn Alike l.sources l.lines.items l.i
