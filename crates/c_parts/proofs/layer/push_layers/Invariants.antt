use Rattle.c_parts.proofs.layer.push_layers.Given as goal
use Rattle.c_parts.specs.Layer.{c_layer}
use Rattle.std.specs.Prelude.{◌≡◌, ◌++◌, map, take}

-- the layers so far
abbrev pub invariant-loop-layer : goal.invariant-loop-layer
invariant-loop-layer l = l.made.items ≡ l.fn.made.items ++ map (c_layer l.direction) (take l.layer-index l.layers)
