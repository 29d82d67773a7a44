use Rattle.exchange.proofs.Common.{refl, subst, sym, AreMidsDistinct, section_mids}
use Rattle.exchange.proofs.state.ExchangeFollowLaws.{follows_same}
use Rattle.exchange.proofs.state.exchange.Exchange.create_offer.Goals as goal
use Rattle.exchange.specs.declared.offer.pending.Pending.{Pending}
use Rattle.exchange.specs.section.Places.{FollowsPlaces}
use Rattle.exchange.specs.state.State.{sections_of}

pub returns-clause-sound : goal.returns-clause-sound
returns-clause-sound c = λ sound. record {
  own_names = sound.own_names;
  known = sound.known;
  placed = subst (λ (pending : Pending). FollowsPlaces c.args.self.now.names (sections_of c.args.self.now.local) pending.sdp.media_lines
      × AreMidsDistinct (section_mids pending.sdp.media_lines))
      (sym c.in_ok-made.ensures.waits) (c.in_ok-made.ensures.made.follows, c.in_ok-made.ensures.made.different sound.own_names);
}

pub returns-clause-follows : goal.returns-clause-follows
returns-clause-follows c = follows_same c.args.self.now _ refl refl refl
