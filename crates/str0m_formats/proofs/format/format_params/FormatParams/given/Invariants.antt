use Rattle.str0m_formats.proofs.Common.{◌≡◌}
use Rattle.str0m_formats.proofs.format.ParamTextListed.{params_to}
use Rattle.str0m_formats.proofs.format.format_params.FormatParams.given.Given as goal

-- the parameters of the fields so far
abbrev pub invariant-loop-field : goal.invariant-loop-field
invariant-loop-field l = l.params.items ≡ params_to l.self l.field-index
