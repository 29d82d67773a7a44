use Rattle.str0m_formats.proofs.format.FormatParamReadingLaws.{param_num_is_only}
use Rattle.str0m_formats.proofs.format.format_param.param_byte_number.Goals as goal

pub returns : goal.returns
returns c = param_num_is_only 255 c.args.text.now _ c.num_u8.ensures
