use Rattle.str0m_sdp.proofs.Common.{◌++◌, take, flat_map, HasWritten, IsPlainFormatter}
use Rattle.str0m_sdp.proofs.form.printed.PrintedLedDisplay.fmt.Given as goal

-- the items so far are written, each after the lead
abbrev pub invariant-loop-item : goal.invariant-loop-item
invariant-loop-item g l =
    IsPlainFormatter l.initial.f → HasWritten g.W.Write.write_str_gives l.initial.f
    (flat_map (λ item. l.lead ++ g.T.Printed.text item) (take l.item-index l.item-items)) l.f
