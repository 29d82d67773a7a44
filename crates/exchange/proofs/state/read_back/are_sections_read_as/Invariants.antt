use Rattle.exchange.proofs.Common.{length, ◌↔◌, AllZip}
use Rattle.exchange.proofs.state.read_back.are_sections_read_as.Given as goal
use Rattle.exchange.specs.state.ReadBack.{IsSectionReadAs}

-- all are read so where those are that are left
abbrev pub invariant-loop-section : goal.invariant-loop-section
invariant-loop-section l = AllZip IsSectionReadAs l.fn.said l.fn.read ↔ AllZip IsSectionReadAs l.left l.reads

abbrev pub decreases-loop-section : goal.decreases-loop-section
decreases-loop-section l = length l.left
