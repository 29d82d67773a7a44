use Rattle.str0m_sdp.proofs.Common.{arith, append_assoc, common_steps}
use Rattle.str0m_sdp.proofs.attribute.fmtp.write_fmtp.Goals as goal

pub returns : goal.returns
returns g c = rw c.in-Some.ensures (simp append_assoc (grind (arith, common_steps)))
