use Rattle.exchange.proofs.offer.OfferRuleLaws.{offer_rules}
use Rattle.exchange.proofs.offer.made_offer.made_offer.Goals as goal

pub returns-clause-rules : goal.returns-clause-rules
returns-clause-rules c = offer_rules c.args.exchange.now c.args.names.now c.in_ok-offer.offer c.in_ok-offer.ensures
