use Rattle.str0m_formats.proofs.format.FormatLineAgain.{format_line_itself}
use Rattle.str0m_formats.proofs.format.format_params.FormatParams.parse_line.Goals as goal

pub returns-clause-itself : goal.returns-clause-itself
returns-clause-itself c = format_line_itself c.args.line.now c.format_in.result c.format_in.ensures
