use Rattle.c_calls.proofs.offer_calls.offer_answer_taken.Goals as goal
use Rattle.c_calls.specs.ExchangeCalls.{AcceptsAnswer}
use Rattle.std.proofs.Common.{ℕ, List, subst}

-- the text is the bytes
pub returns-in-Ok-accept_answer-clause-taken : goal.returns-in-Ok-accept_answer-clause-taken
returns-in-Ok-accept_answer-clause-taken c =
    let taken : AcceptsAnswer c.args.exchange.now c.accept_answer.new.self c.in-Ok.text.now = record {
      waiting = c.in-Ok-accept_answer.ensures.waiting;
      read = c.in-Ok-accept_answer.ensures.read;
      fits = c.in-Ok-accept_answer.ensures.fits;
      negotiated = c.in-Ok-accept_answer.ensures.negotiated;
      stay = c.in-Ok-accept_answer.ensures.stay;
      distinct = c.in-Ok-accept_answer.ensures.distinct;
      plain = c.in-Ok-accept_answer.ensures.plain;
      distances = c.in-Ok-accept_answer.ensures.distances;
      local = c.in-Ok-accept_answer.ensures.local;
      stable = c.in-Ok-accept_answer.ensures.stable;
      names = c.in-Ok-accept_answer.ensures.names;
      own = c.in-Ok-accept_answer.ensures.own;
      added = c.in-Ok-accept_answer.ensures.added;
      version_same = c.in-Ok-accept_answer.ensures.version_same;
      follows = c.in-Ok-accept_answer.ensures.follows;
      sound = c.in-Ok-accept_answer.ensures.sound;
    } in
    subst (λ (text : List ℕ). AcceptsAnswer c.args.exchange.now c.accept_answer.new.self text) c.in-Ok.ensures.cases.0 taken
