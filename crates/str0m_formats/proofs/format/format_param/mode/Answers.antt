use Rattle.str0m_formats.proofs.Common.{ap, ◌∙◌, trim, num}
use Rattle.str0m_formats.proofs.format.FormatParamReadingLaws.{param_num_is_only}
use Rattle.str0m_formats.proofs.format.format_param.mode.Goals as goal

pub returns : goal.returns
returns c = param_num_is_only 8 (trim c.args.piece.now) _ (c.num_u8.ensures ∙ ap (num 8) c.trim.ensures.trim)
