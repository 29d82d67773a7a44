use Rattle.str0m_sdp.proofs.Common.{replicate}
use Rattle.str0m_sdp.proofs.section.TypeTableLaws.{type_cleared}
use Rattle.str0m_sdp.proofs.section.type_tables.TypeTable.none.Goals as goal

pub returns-clause-none : goal.returns-clause-none
returns-clause-none c = λ pt. type_cleared (replicate 256 c.from.result) pt
