use Rattle.str0m_formats.proofs.Common.{rules, arith, has_written_append, has_written_of_eq}
use Rattle.str0m_formats.proofs.format.ParamTextListed.{param_list_has_some, listed, listed_push, param_list_has_some_push}
use Rattle.str0m_formats.proofs.format.ParamTextPrinted.{modes_below, modes_push, modes_pass, param_mode_shifted}
use Rattle.str0m_formats.proofs.format.param_text.ModeListDisplay.fmt.Goals as goal
use Rattle.str0m_formats.proofs.format.param_text.ModeListDisplay.fmt.Goals.{else-mask-mode-ne0}

pub loop-mode-init : goal.loop-mode-init
unfolding param_list_has_some listed
loop-mode-init g c = search rules

pub loop-mode-preserved : goal.loop-mode-preserved
loop-mode-preserved g c = grind (
  arith,
  param_mode_shifted,
  modes_push,
  param_list_has_some,
  param_list_has_some_push,
  modes_below,
  has_written_of_eq,
  listed,
  listed_push,
  has_written_append,
  else-mask-mode-ne0,
  modes_pass,
)

pub returns-clause-writes : goal.returns-clause-writes
unfolding listed
returns-clause-writes g c = grind (arith, has_written_of_eq, listed, modes_below)
