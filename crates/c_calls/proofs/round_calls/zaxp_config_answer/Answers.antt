use Rattle.c_calls.proofs.round_calls.zaxp_config_answer.Goals as goal
use Rattle.c_calls.specs.RoundCalls.{CantListRoundRows}
use Rattle.std.proofs.Common.{◌≡◌, Some}

pub returns-clause-nothing : goal.returns-clause-nothing
returns-clause-nothing c = λ is.
    let config : c.args.handle.now.inner ≡ Some c.take-config.result.value = c.take-config.ensures.0 in
    let own : c.args.own.now.inner ≡ Some c.take-sdp.result.value = c.take-sdp.ensures.0 in
    let found : CantListRoundRows c.take-config.result.value.params.items c.take-sdp.result.value c.args.at =
    rw (c.deref.ensures, c.deref_mut.ensures.value) at (c.answer-code.ensures.nothing is) in
    rw (config, own) found
