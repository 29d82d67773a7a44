use Rattle.exchange.proofs.Common.{◌≡◌, ◌++◌, filter_map, take}
use Rattle.exchange.proofs.offer.names.grown_names.Given as goal
use Rattle.exchange.specs.offer.Names.{new_name}

-- the names that were there, then those of the sections so far that are new
abbrev pub invariant-loop-section : goal.invariant-loop-section
invariant-loop-section l = l.all.items ≡ l.had ++ filter_map (new_name l.had) (take l.section-index l.sections)
