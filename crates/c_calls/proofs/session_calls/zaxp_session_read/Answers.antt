use Rattle.c_calls.proofs.session_calls.zaxp_session_read.Goals as goal

pub returns-clause-no_session : goal.returns-clause-no_session
returns-clause-no_session c = c.say_refusal.ensures.no_session c.args.text.now c.in-Err.ensures.refused

pub returns-clause-no_text : goal.returns-clause-no_text
returns-clause-no_text c = c.say_refusal.ensures.no_text c.args.text.now c.in-Err.ensures.refused
