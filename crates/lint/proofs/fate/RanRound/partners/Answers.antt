use Rattle.lint.proofs.Common.{arith, take_all}
use Rattle.lint.proofs.FateLaws.{row_partners_step}
use Rattle.lint.proofs.fate.RanRound.partners.Goals as goal

pub loop-i-preserved : goal.loop-i-preserved
loop-i-preserved c = grind (arith, row_partners_step)

pub returns : goal.returns
returns c = λ same. grind (arith, take_all)
