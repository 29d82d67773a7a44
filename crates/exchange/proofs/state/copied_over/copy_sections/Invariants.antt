use Rattle.exchange.proofs.Common.{◌≡◌, length, take}
use Rattle.exchange.proofs.state.CopiedOverLaws.{CopiedFromOn}
use Rattle.exchange.proofs.state.copied_over.copy_sections.Given as goal
use Rattle.exchange.specs.state.ReadBack.{IsSectionReadAs}

-- the sections so far are equal, there are as many as there were, and the others are as they were
abbrev pub invariant-loop-i : goal.invariant-loop-i
invariant-loop-i l = (take l.i l.sections.items ≡ take l.i l.sources) × (length l.sections.items ≡ length l.sources)
    × CopiedFromOn IsSectionReadAs l.sources l.sections.items l.i
