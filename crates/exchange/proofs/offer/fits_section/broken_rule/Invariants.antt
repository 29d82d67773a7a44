use Rattle.exchange.proofs.Common.{All, take}
use Rattle.exchange.proofs.offer.fits_section.broken_rule.Given as goal
use Rattle.exchange.specs.offer.Fits.{KeepsRule}

-- the rules so far are kept
abbrev pub invariant-loop-rule : goal.invariant-loop-rule
invariant-loop-rule l = All (KeepsRule l.ours.params.items l.answer l.offered l.answered) (take l.rule-index l.rule-items)
