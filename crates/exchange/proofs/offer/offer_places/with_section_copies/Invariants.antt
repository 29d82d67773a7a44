use Rattle.exchange.proofs.Common.{◌≡◌, ◌++◌, take}
use Rattle.exchange.proofs.offer.offer_places.with_section_copies.Given as goal

-- the copies so far after the others
abbrev pub invariant-loop-section : goal.invariant-loop-section
invariant-loop-section l = l.sections.items ≡ l.initial.sections.items ++ take l.section-index l.behind
