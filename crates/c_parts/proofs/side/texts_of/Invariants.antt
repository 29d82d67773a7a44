use Rattle.c_parts.proofs.side.texts_of.Given as goal
use Rattle.c_parts.specs.Side.{listed_texts}
use Rattle.std.specs.Prelude.{◌≡◌, take}

-- the texts so far
abbrev pub invariant-loop-bytes : goal.invariant-loop-bytes
invariant-loop-bytes l = l.texts ≡ listed_texts (take l.bytes-index l.list)
