use Rattle.exchange.proofs.Common.{arith, common_steps}
use Rattle.exchange.proofs.answer.AnswerLaws.{answer_unprintable}
use Rattle.exchange.proofs.state.exchange.Exchange.answering.Goals as goal
use Rattle.exchange.specs.state.Exchange.{RefusesOffer}

pub returns-in_err-local-clause-refused : goal.returns-in_err-local-clause-refused
returns-in_err-local-clause-refused c =
    let told : RefusesOffer c.args.self.now c.args.offer.now c.in_err-local.field-0.0 =
    answer_unprintable c.args.self.now c.args.offer.now c.in_ok-remote.remote c.in_ok-config.config.params.items c.in_err-local.field-0.0
    c.in_ok-remote.ensures.read c.in_ok-config.ensures.rounds c.in_err-local.ensures.refused in
    grind (arith, common_steps, told)

pub returns-clause-answered : goal.returns-clause-answered
returns-clause-answered c = record {
  read = c.in_ok-remote.ensures.read;
  different = c.in_ok-remote.ensures.different;
  placed = c.in_ok-remote.ensures.placed;
  shape = c.in_ok-sdp.ensures.shape;
  exactly = c.in_ok-sdp.ensures.exactly;
  rules = c.in_ok-sdp.ensures.rules;
  answers = c.in_ok-sdp.ensures.answers;
  bundle = c.in_ok-sdp.ensures.bundle;
  mids = c.in_ok-sdp.ensures.names;
  tracks = c.in_ok-sdp.ensures.tracks c.in_ok-remote.ensures.different;
  read_back = c.in_ok-local.ensures.read_back;
  negotiated = c.in_ok-config.ensures.rounds;
  stay = c.in_ok-config.ensures.stay;
  distinct = λ distinct. c.in_ok-config.ensures.distinct distinct;
  plain = λ plain. c.in_ok-config.ensures.plain c.in_ok-remote.ensures.bounded plain;
  distances = c.in_ok-config.ensures.distances;
}
