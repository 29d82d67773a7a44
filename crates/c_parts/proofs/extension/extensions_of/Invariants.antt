use Rattle.c_parts.proofs.extension.extensions_of.Given as goal
use Rattle.c_parts.specs.Extension.{c_extension}
use Rattle.std.specs.Prelude.{◌≡◌, map, take}
use Rattle.str0m_sdp.specs.section.SectionAccessors.{ext_map_at}

-- the extensions so far
abbrev pub invariant-loop-mapped : goal.invariant-loop-mapped
invariant-loop-mapped l = l.made.items ≡ map c_extension (map ext_map_at (take l.mapped-index l.maps))
