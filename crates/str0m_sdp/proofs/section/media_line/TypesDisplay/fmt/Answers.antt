use Rattle.str0m_sdp.proofs.Common.{arith, common_steps}
use Rattle.str0m_sdp.proofs.section.MediaLineTypes.{types_spaced}
use Rattle.str0m_sdp.proofs.section.media_line.TypesDisplay.fmt.Goals as goal

pub returns-clause-writes : goal.returns-clause-writes
returns-clause-writes g c = rw c.in-Some.ensures.cases.0
    (rw (types_spaced c.in-Some.before.now c.in-Some.last.now) (grind (arith, common_steps)))
