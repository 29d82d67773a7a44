use Rattle.lint.proofs.Common.{take}
use Rattle.lint.proofs.fate.RanRound.partners.Given as goal
use Rattle.lint.specs.Fates.{AreRowPartners}

-- the partners of the rows so far
abbrev pub invariant-loop-i : goal.invariant-loop-i
invariant-loop-i l = AreRowPartners l.self.theirs.now.params.items l.self.receives (take l.i l.self.before.now) (take l.i l.self.after.now)
    l.partners.items
