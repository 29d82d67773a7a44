use Rattle.str0m_formats.proofs.Common.{◌≡◌}
use Rattle.str0m_formats.proofs.round.FirstPass.{FirstState}
use Rattle.str0m_formats.proofs.round.claims.Claims.lock_rows.Given as goal

-- the rows so far are begun, and what is claimed are their types
abbrev pub invariant-loop-row : goal.invariant-loop-row
invariant-loop-row g l =
    FirstState l.initial.rows l.remote l.initial.self.receives l.rows l.row-index (g.C.Claimed.holds l.self.claimed)
    (g.C.Claimed.holds l.self.unlocked)
    × (l.self.receives ≡ l.initial.self.receives)
