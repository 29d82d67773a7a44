use Rattle.c_calls.proofs.session_calls.put_versioned_session.Goals as goal
use Rattle.str0m_sdp.specs.session.Session.{versioned_text}

pub returns : goal.returns
returns c = c.put_said_text.ensures (versioned_text c.args.version c.args.sdp.now) c.to_string.ensures.ok
