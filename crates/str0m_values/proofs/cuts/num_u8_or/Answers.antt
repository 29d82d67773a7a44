use Rattle.str0m_values.proofs.CutsNumLaws.{num_only}
use Rattle.str0m_values.proofs.cuts.num_u8_or.Goals as goal

pub returns-in-Some : goal.returns-in-Some
returns-in-Some c = rw (c.in-Some.is, c.num_u8.ensures) (num_only 255 c.in-Some.text.now)
