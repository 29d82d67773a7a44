use Rattle.str0m_values.proofs.Common.{arith}
use Rattle.str0m_values.proofs.CutsNearLaws.{hex_written_only}
use Rattle.str0m_values.proofs.cuts.hex_u32.Goals as goal

pub returns-in-Some : goal.returns-in-Some
returns-in-Some c = hex_written_only c.args.text.now c.in-Some.number (rw c.as_bytes.ensures.value at c.in-Some.ensures) (omega arith)
