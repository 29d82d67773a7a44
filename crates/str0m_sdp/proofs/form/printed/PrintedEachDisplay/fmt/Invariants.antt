use Rattle.str0m_sdp.proofs.Common.{take, flat_map, HasWritten, IsPlainFormatter}
use Rattle.str0m_sdp.proofs.form.printed.PrintedEachDisplay.fmt.Given as goal

-- the items so far are written
abbrev pub invariant-loop-item : goal.invariant-loop-item
invariant-loop-item g l =
    IsPlainFormatter l.initial.f → HasWritten g.W.Write.write_str_gives l.initial.f
    (flat_map g.T.Printed.text (take l.item-index l.item-items)) l.f
