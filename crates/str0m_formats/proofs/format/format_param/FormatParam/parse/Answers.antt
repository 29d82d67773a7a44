use Rattle.str0m_formats.proofs.format.FormatParamAgain.{parsed_param_printed}
use Rattle.str0m_formats.proofs.format.format_param.FormatParam.parse.Goals as goal

pub returns-clause-printed : goal.returns-clause-printed
returns-clause-printed c = parsed_param_printed c.args.key.now c.args.value.now c.parsed_param.result c.parsed_param.ensures
