use Rattle.c_parts.proofs.source.sources_of.Given as goal
use Rattle.c_parts.specs.Source.{c_source}
use Rattle.std.specs.Prelude.{◌≡◌, map, take}

-- the sources so far
abbrev pub invariant-loop-info : goal.invariant-loop-info
invariant-loop-info l = l.made.items ≡ map c_source (take l.info-index l.infos)
