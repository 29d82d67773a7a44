use Rattle.c_calls.proofs.round_calls.zaxp_config_negotiate.Goals as goal

pub returns-in-Err-clause-no_session : goal.returns-in-Err-clause-no_session
returns-in-Err-clause-no_session c = c.say_refusal.ensures.no_session c.args.text.now c.in-Err.ensures.refused

pub returns-in-Err-clause-no_text : goal.returns-in-Err-clause-no_text
returns-in-Err-clause-no_text c = c.say_refusal.ensures.no_text c.args.text.now c.in-Err.ensures.refused
