use Rattle.exchange.proofs.Common.{◌≡◌, map, take}
use Rattle.exchange.proofs.offer.own_names.added_names_of.Given as goal
use Rattle.exchange.specs.section.Stopped.{name_of}

-- the names so far
abbrev pub invariant-loop-section : goal.invariant-loop-section
invariant-loop-section l = l.names.items ≡ map name_of (take l.section-index l.sections)
