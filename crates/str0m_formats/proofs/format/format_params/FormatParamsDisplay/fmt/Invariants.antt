use Rattle.str0m_formats.proofs.Common.{◌≡◌, HasWritten, IsPlainFormatter}
use Rattle.str0m_formats.proofs.format.ParamTextListed.{param_list_has_some, params_to, listed}
use Rattle.str0m_formats.proofs.format.format_params.FormatParamsDisplay.fmt.Given as goal
use Rattle.str0m_formats.specs.format.FormatParam.{param_text}

abbrev pub invariant-loop-field : goal.invariant-loop-field
invariant-loop-field g l =
    (l.started ≡ param_list_has_some (params_to l.self l.field-index))
    × (IsPlainFormatter l.initial.f
    → HasWritten g.W.Write.write_str_gives l.initial.f (listed 59 param_text (params_to l.self l.field-index)) l.f)
