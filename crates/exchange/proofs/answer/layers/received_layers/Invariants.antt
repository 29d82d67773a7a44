use Rattle.exchange.proofs.Common.{◌≡◌, filter, take}
use Rattle.exchange.proofs.answer.layers.received_layers.Given as goal
use Rattle.exchange.specs.answer.Layers.{is_rid_answered}

-- those so far that are answered
abbrev pub invariant-loop-layer : goal.invariant-loop-layer
invariant-loop-layer l = l.layers.items ≡ filter (is_rid_answered l.rids) (take l.layer-index l.sent)
