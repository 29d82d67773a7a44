use Rattle.str0m_values.proofs.Common.{◌∷◌, take, flat_map, HasWritten, IsPlainFormatter}
use Rattle.str0m_values.proofs.fingerprint.MorePairsDisplay.fmt.Given as goal
use Rattle.str0m_values.specs.Fingerprint.{hex_pair}

abbrev pub invariant-loop-byte : goal.invariant-loop-byte
invariant-loop-byte g l =
    IsPlainFormatter l.initial.f → HasWritten g.W.Write.write_str_gives l.initial.f
    (flat_map (λ byte. 58 ∷ hex_pair byte) (take l.byte-index l.byte-items)) l.f
