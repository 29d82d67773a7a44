use Rattle.c_calls.proofs.session_calls.put_text.Goals as goal
use Rattle.str0m_sdp.specs.session.Session.{sdp_text}

pub returns : goal.returns
returns c = c.put_said_text.ensures (sdp_text c.args.sdp.now) c.to_string.ensures.ok
