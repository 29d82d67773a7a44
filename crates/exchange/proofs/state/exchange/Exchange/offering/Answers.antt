use Rattle.exchange.proofs.Common.{refl, rules, subst, sym, versioned_text}
use Rattle.exchange.proofs.state.ReadBackLaws.{read_back_copied}
use Rattle.exchange.proofs.state.exchange.Exchange.offering.Goals as goal
use Rattle.exchange.specs.offer.OfferRules.{IsOfferedWith}

pub returns-clause-made : goal.returns-clause-made
returns-clause-made c =
    let copy = read_back_copied c.in_ok-sdp.sdp (versioned_text c.args.self.now.version c.in_ok-sdp.sdp) _ c.in-Some.copy c.in-Some.is
    c.in_ok-copy.ensures in
    let said : IsOfferedWith c.args.self.now
    (record { sdp = c.in_ok-sdp.sdp; version = c.args.self.now.version; added = c.in_ok-added.added })
    = record {
      stable = c.in_ok-check_stable.ensures.stable;
      names = search rules;
      as_many = search rules;
      new = search rules;
      says = search rules;
      places = c.in_ok-sdp.ensures.places;
      follows = c.in_ok-sdp.ensures.follows;
      rules = search rules;
      different = c.in_ok-sdp.ensures.different;
      read_back = copy.1;
      version = refl;
    } in
    subst (IsOfferedWith c.args.self.now) (sym c.new-offer.ensures) said
