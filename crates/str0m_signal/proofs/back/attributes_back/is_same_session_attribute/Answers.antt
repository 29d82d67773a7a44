use Rattle.str0m_sdp.proofs.{session_Decides}
use Rattle.str0m_signal.proofs.back.attributes_back.is_same_session_attribute.Goals as goal

pub returns : goal.returns
returns c = rw c.eq.ensures (session_Decides c.args.attribute.now c.args.other.now)
