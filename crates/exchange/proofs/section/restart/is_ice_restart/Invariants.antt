use Rattle.exchange.proofs.Common.{ℕ, ◌<◌}
use Rattle.exchange.proofs.section.restart.is_ice_restart.Given as goal
use Rattle.exchange.specs.section.Restart.{IsRestartedAt}

-- none that was passed is restarted
abbrev pub invariant-loop-at : goal.invariant-loop-at
invariant-loop-at l = (k : ℕ) → k < l.at → IsRestartedAt l.before l.now k → ⊥
