use Rattle.exchange.proofs.Common.{◌≡◌, ◌∙◌, Some, ap, length, option_map, subst, sym, AllTypesDistinct, LockedStay, types}
use Rattle.exchange.proofs.state.ExchangeFollowLaws.{follows_done, follows_open_names, exchange_sound_done}
use Rattle.exchange.proofs.state.exchange.Exchange.accept_answer.Goals as goal
use Rattle.exchange.specs.declared.offer.pending.Pending.{Pending}
use Rattle.exchange.specs.declared.state.exchange.Exchange.{Exchange}
use Rattle.exchange.specs.offer.Names.{grown_names}
use Rattle.exchange.specs.state.State.{pending_sdp, sections_of}

pub returns-clause-stay : goal.returns-clause-stay
returns-clause-stay c =
    subst (λ (after : Exchange). LockedStay c.args.self.now.config.params.items after.config.params.items) (sym c.settle.ensures)
    c.in_ok-found.ensures.taken.stay

pub returns-clause-distinct : goal.returns-clause-distinct
returns-clause-distinct c = λ distinct.
    subst (λ (after : Exchange). AllTypesDistinct (types after.config.params.items)) (sym c.settle.ensures)
    (c.in_ok-found.ensures.taken.distinct distinct)

pub returns-clause-sound : goal.returns-clause-sound
returns-clause-sound c = λ sound.
    let taken = c.in_ok-found.ensures.taken in
    let open_so : pending_sdp c.args.self.now ≡ Some taken.offer.sdp = ap (option_map (λ (offer : Pending). offer.sdp)) taken.open_so in
    let named : c.in_ok-found.found.names ≡ grown_names c.args.self.now.names taken.offer.sdp.media_lines =
    c.in_ok-found.ensures.names ∙ ap (λ sdp. grown_names c.args.self.now.names (sections_of sdp)) open_so in
    exchange_sound_done _ c.args.self.now.names taken.offer.sdp (follows_open_names c.args.self.now taken.offer sound taken.open_so)
    (ap (λ (after : Exchange). after.local) c.settle.ensures ∙ (c.taken_offer-local.ensures.was ∙ open_so))
    (ap (λ (after : Exchange). after.names) c.settle.ensures ∙ named)
    (ap (λ (after : Exchange). after.pending) c.settle.ensures ∙ c.taken_offer-local.ensures.none)

pub returns-clause-follows : goal.returns-clause-follows
returns-clause-follows c = λ sound.
    let taken = c.in_ok-found.ensures.taken in
    let open_so : pending_sdp c.args.self.now ≡ Some taken.offer.sdp = ap (option_map (λ (offer : Pending). offer.sdp)) taken.open_so in
    let named : c.in_ok-found.found.names ≡ grown_names c.args.self.now.names taken.offer.sdp.media_lines =
    c.in_ok-found.ensures.names ∙ ap (λ sdp. grown_names c.args.self.now.names (sections_of sdp)) open_so in
    follows_done c.args.self.now _ taken.offer sound taken.open_so
    (ap (λ (after : Exchange). after.local) c.settle.ensures ∙ (c.taken_offer-local.ensures.was ∙ open_so))
    (ap (λ (after : Exchange). after.names) c.settle.ensures ∙ named)
    (ap (λ (after : Exchange). length after.config.params.items) c.settle.ensures ∙ taken.negotiated.promises.rows)
    (subst (λ (after : Exchange). LockedStay c.args.self.now.config.params.items after.config.params.items) (sym c.settle.ensures)
    taken.stay)
