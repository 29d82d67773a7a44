use Rattle.str0m_values.proofs.Common.{arith}
use Rattle.str0m_values.proofs.CutLaws.{prefix_short}
use Rattle.str0m_values.proofs.cuts.begins_with.Goals as goal

pub returns-then-bytes-prefix : goal.returns-then-bytes-prefix
returns-then-bytes-prefix c = prefix_short c.args.prefix.now c.args.bytes.now (omega (arith, c.if-bytes-prefix.true))
