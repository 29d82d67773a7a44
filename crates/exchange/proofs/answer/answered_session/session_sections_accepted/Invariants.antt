use Rattle.exchange.proofs.Common.{◌≡◌, take, map}
use Rattle.exchange.proofs.answer.answered_session.session_sections_accepted.Given as goal
use Rattle.exchange.specs.answer.AnsweredSession.{is_section_accepted}

-- the answers for the sections so far
abbrev pub invariant-loop-section : goal.invariant-loop-section
invariant-loop-section l = l.accepted.items ≡ map is_section_accepted (take l.section-index l.sections)
