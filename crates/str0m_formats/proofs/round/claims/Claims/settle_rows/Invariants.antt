use Rattle.str0m_formats.proofs.round.SettlingPass.{SecondPassState}
use Rattle.str0m_formats.proofs.round.claims.Claims.settle_rows.Given as goal

-- the rows so far are settled, and what is claimed serves for the next
abbrev pub invariant-loop-row : goal.invariant-loop-row
invariant-loop-row g l =
    SecondPassState (g.C.Claimed.holds l.initial.self.unlocked) l.initial.rows l.rows l.row-index (g.C.Claimed.holds l.self.claimed)
    (g.C.Claimed.holds l.self.unlocked)
