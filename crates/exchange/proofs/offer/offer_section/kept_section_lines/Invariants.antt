use Rattle.exchange.proofs.Common.{◌≡◌, filter, option_copied, take}
use Rattle.exchange.proofs.offer.offer_section.kept_section_lines.Given as goal
use Rattle.exchange.specs.offer.OfferSection.{is_offer_line_said_again}

-- those so far that it goes on saying
abbrev pub invariant-loop-line : goal.invariant-loop-line
invariant-loop-line l = l.lines.items ≡ filter (is_offer_line_said_again (option_copied l.theirs)) (take l.line-index l.mine.attrs)
