use Rattle.str0m_values.proofs.cuts.near_cut.Given as goal
use Rattle.str0m_values.specs.Cuts.{LacksCutAt}

abbrev pub invariant-loop-i : goal.invariant-loop-i
invariant-loop-i l = LacksCutAt l.wanted l.bytes l.i
