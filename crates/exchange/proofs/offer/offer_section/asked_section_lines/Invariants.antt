use Rattle.exchange.proofs.Common.{◌≡◌, take}
use Rattle.exchange.proofs.offer.offer_section.asked_section_lines.Given as goal
use Rattle.exchange.specs.offer.OfferSection.{asked_section_lines}

-- with the extensions so far
abbrev pub invariant-loop-line : goal.invariant-loop-line
invariant-loop-line l = l.lines.items ≡ asked_section_lines (take l.line-index l.extensions)
