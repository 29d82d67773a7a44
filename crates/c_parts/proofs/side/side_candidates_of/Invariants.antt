use Rattle.c_parts.proofs.side.side_candidates_of.Given as goal
use Rattle.c_parts.specs.Side.{listed_texts}
use Rattle.exchange.specs.section.Trickled.{IsTrickled}
use Rattle.std.specs.List.{AllZip}
use Rattle.std.specs.Prelude.{take}

-- the candidates so far
abbrev pub invariant-loop-line : goal.invariant-loop-line
invariant-loop-line l = AllZip IsTrickled (listed_texts (take l.line-index l.lines)) l.candidates
