use Rattle.exchange.proofs.Common.{◌≡◌, take}
use Rattle.exchange.proofs.answer.layers.rid_types_left.Given as goal
use Rattle.exchange.specs.answer.Layers.{rid_types_left}

-- those so far that are left
abbrev pub invariant-loop-pt : goal.invariant-loop-pt
invariant-loop-pt l = l.left.items ≡ rid_types_left l.rows (take l.pt-index l.pts)
