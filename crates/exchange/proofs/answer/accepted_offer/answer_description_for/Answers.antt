use Rattle.exchange.proofs.answer.AcceptedOfferLaws.{offer_same_names, tracks_differ}
use Rattle.exchange.proofs.answer.accepted_offer.answer_description_for.Goals as goal

pub returns-clause-names : goal.returns-clause-names
returns-clause-names c =
    offer_same_names c.args.own.now c.args.config.now.params.items c.args.offer.now c.in_ok-media_lines.media_lines
    c.in_ok-media_lines.ensures.answers

pub returns-clause-tracks : goal.returns-clause-tracks
returns-clause-tracks c =
    tracks_differ c.args.own.now c.args.config.now.params.items c.args.offer.now c.in_ok-media_lines.media_lines
    c.in_ok-media_lines.ensures.answers
