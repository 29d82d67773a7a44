use Rattle.c_calls.proofs.round_calls.negotiated.Goals as goal
use Rattle.c_calls.specs.RoundCalls.{RanRounds}
use Rattle.std.proofs.Common.{subst}

-- the text is the bytes
pub returns-in-Ok-negotiated_text-clause-ran : goal.returns-in-Ok-negotiated_text-clause-ran
returns-in-Ok-negotiated_text-clause-ran c =
    subst (λ text. RanRounds text c.args.config.now c.negotiated_text.new.config c.args.room.now c.negotiated_text.new.room
    c.negotiated_text.new.needed)
    c.in-Ok.ensures.cases.0 c.in-Ok-negotiated_text.ensures.ran
