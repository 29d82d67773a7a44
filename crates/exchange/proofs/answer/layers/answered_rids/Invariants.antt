use Rattle.exchange.proofs.Common.{◌≡◌, filter_map, take}
use Rattle.exchange.proofs.answer.layers.answered_rids.Given as goal
use Rattle.exchange.specs.answer.Layers.{answered_rid}

-- the answers to the lines so far
abbrev pub invariant-loop-line : goal.invariant-loop-line
invariant-loop-line l = l.rids.items ≡ filter_map (answered_rid l.sent l.rows) (take l.line-index l.lines)
