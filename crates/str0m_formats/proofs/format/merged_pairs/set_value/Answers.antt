use Rattle.str0m_formats.proofs.Common.{arith}
use Rattle.str0m_formats.proofs.format.MergedPairsLaws.{value_set}
use Rattle.str0m_formats.proofs.format.merged_pairs.set_value.Goals as goal

pub returns : goal.returns
returns c = grind (arith, value_set)
