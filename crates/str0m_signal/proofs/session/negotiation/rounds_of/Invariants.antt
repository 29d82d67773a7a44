use Rattle.str0m_signal.proofs.Common.{◌≡◌, take, map, filter_map}
use Rattle.str0m_signal.proofs.session.negotiation.rounds_of.Given as goal
use Rattle.str0m_signal.specs.session.Negotiation.{brought_by_round, brought_by_section}

-- the rounds of the sections so far
abbrev pub invariant-loop-section : goal.invariant-loop-section
invariant-loop-section l = map brought_by_round l.rounds.items ≡ filter_map brought_by_section (take l.section-index l.fn.sections)
