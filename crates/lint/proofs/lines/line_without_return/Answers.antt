use Rattle.lint.proofs.LineLaws.{line_without_return}
use Rattle.lint.proofs.lines.line_without_return.Goals as goal

pub returns : goal.returns
returns c = line_without_return c.args.line c.strip_suffix.result c.unwrap_or.result c.strip_suffix.ensures.cases c.unwrap_or.ensures
