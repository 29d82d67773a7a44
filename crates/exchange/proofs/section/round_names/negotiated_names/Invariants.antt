use Rattle.exchange.proofs.Common.{◌≡◌, filter, map, take}
use Rattle.exchange.proofs.section.round_names.negotiated_names.Given as goal
use Rattle.exchange.specs.section.RoundNames.{has_round}
use Rattle.exchange.specs.section.Stopped.{name_of}

-- the names of those so far that have a round
abbrev pub invariant-loop-section : goal.invariant-loop-section
invariant-loop-section l = l.names.items ≡ map name_of (filter has_round (take l.section-index l.sections))
