use Rattle.exchange.proofs.Common.{rules, ◌≡◌, Some, ap, length, subst, sym, ◌∙◌, AllTypesDistinct, LockedStay, types, Sdp, versioned_text}
use Rattle.exchange.proofs.Common.{AreMidsDistinct, section_mids}
use Rattle.exchange.proofs.state.ExchangeFollowLaws.{follows_answer, follows_none_open, exchange_sound_done}
use Rattle.exchange.proofs.state.exchange.Exchange.accept_offer.Goals as goal
use Rattle.exchange.specs.declared.answer.Answer.{Answer}
use Rattle.exchange.specs.declared.state.exchange.Exchange.{Exchange}
use Rattle.exchange.specs.declared.state.signaling_state.SignalingState.TheVariants.{Stable}
use Rattle.exchange.specs.offer.Names.{grown_names}
use Rattle.exchange.specs.state.ReadBack.{IsReadBack}
use Rattle.exchange.specs.state.State.{state_of}

pub returns-clause-read_back : goal.returns-clause-read_back
returns-clause-read_back c =
    subst (λ (answer : Answer). IsReadBack answer.sdp (versioned_text answer.version answer.sdp)) (sym c.new-answer.ensures)
    c.in_ok-made.ensures.answered.read_back

pub returns-clause-stay : goal.returns-clause-stay
returns-clause-stay c =
    subst (λ (after : Exchange). LockedStay c.args.self.now.config.params.items after.config.params.items) (sym c.settle.ensures)
    c.in_ok-made.ensures.answered.stay

pub returns-clause-distinct : goal.returns-clause-distinct
returns-clause-distinct c = λ distinct.
    subst (λ (after : Exchange). AllTypesDistinct (types after.config.params.items)) (sym c.settle.ensures)
    (c.in_ok-made.ensures.answered.distinct distinct)

pub returns-clause-sound : goal.returns-clause-sound
returns-clause-sound c = λ sound.
    let stable : state_of c.args.self.now ≡ Stable = search rules in
    let named : c.in_ok-made.made.names ≡ grown_names c.args.self.now.names c.in_ok-made.made.local.media_lines =
    cc (c.in_ok-made.ensures.names, c.in_ok-made.ensures.same) in
    let same : section_mids c.in_ok-made.made.local.media_lines ≡ section_mids c.in_ok-made.made.remote.media_lines =
    ap (λ (sdp : Sdp). section_mids sdp.media_lines) c.in_ok-made.ensures.same ∙ c.in_ok-made.ensures.answered.mids in
    exchange_sound_done _ c.args.self.now.names c.in_ok-made.made.local
    (subst AreMidsDistinct (sym same) c.in_ok-made.ensures.answered.different)
    (ap (λ (after : Exchange). after.local) c.settle.ensures) (ap (λ (after : Exchange). after.names) c.settle.ensures ∙ named)
    (ap (λ (after : Exchange). after.pending) c.settle.ensures ∙ follows_none_open c.args.self.now.pending stable)

pub returns-clause-follows : goal.returns-clause-follows
returns-clause-follows c =
    follows_answer c.args.self.now _ c.in_ok-made.made.remote c.in_ok-made.made.sdp c.in_ok-made.ensures.answered.placed
    c.in_ok-made.ensures.answered.shape
    (ap (λ (after : Exchange). after.local) c.settle.ensures ∙ ap (λ (sdp : Sdp). Some sdp) c.in_ok-made.ensures.same)
    (ap (λ (after : Exchange). after.names) c.settle.ensures ∙ c.in_ok-made.ensures.names)
    (ap (λ (after : Exchange). length after.config.params.items) c.settle.ensures ∙ c.in_ok-made.ensures.answered.negotiated.promises.rows)
    (subst (λ (after : Exchange). LockedStay c.args.self.now.config.params.items after.config.params.items) (sym c.settle.ensures)
    c.in_ok-made.ensures.answered.stay)
