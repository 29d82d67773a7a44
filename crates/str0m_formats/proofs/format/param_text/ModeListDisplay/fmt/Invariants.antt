use Rattle.str0m_formats.proofs.Common.{◌≡◌, decimal, HasWritten, IsPlainFormatter}
use Rattle.str0m_formats.proofs.format.ParamTextListed.{param_list_has_some, listed}
use Rattle.str0m_formats.proofs.format.ParamTextPrinted.{modes_below}
use Rattle.str0m_formats.proofs.format.param_text.ModeListDisplay.fmt.Given as goal

abbrev pub invariant-loop-mode : goal.invariant-loop-mode
invariant-loop-mode g l =
    (l.started ≡ param_list_has_some (modes_below l.mask l.mode))
    × (IsPlainFormatter l.initial.f → HasWritten g.W.Write.write_str_gives l.initial.f (listed 44 decimal (modes_below l.mask l.mode)) l.f)
