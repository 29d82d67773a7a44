use Rattle.str0m_sdp.proofs.Common.{◌++◌, take, codes, flat_map, HasWritten, IsPlainFormatter}
use Rattle.str0m_sdp.proofs.attribute.rid.RidPairsDisplay.fmt.Given as goal
use Rattle.str0m_sdp.specs.attribute.Rid.{restriction_text}

-- the restrictions so far are written, each after a separator
abbrev pub invariant-loop-pair : goal.invariant-loop-pair
invariant-loop-pair g l =
    IsPlainFormatter l.initial.f → HasWritten g.W.Write.write_str_gives l.initial.f
    (flat_map (λ pair. codes ";" ++ restriction_text pair) (take l.pair-index l.more)) l.f
