-- Answers to an offer of this side.
use Rattle.exchange.specs.Prelude.{AllTypesDistinct, IsPlain, LockedStay, PayloadParams, Reading, Sdp, types}
use Rattle.exchange.specs.answer.Offered.{NegotiatesOffer, RefusesOfferedText}
use Rattle.exchange.specs.declared.offer.added.AddedUnderMid.{AddedUnderMid}
use Rattle.exchange.specs.declared.offer.pending.Pending.{Pending}
use Rattle.exchange.specs.declared.offer.rule.Rule.{Rule}
use Rattle.exchange.specs.declared.state.exchange.Exchange.{Exchange}
use Rattle.exchange.specs.declared.state.exchange_error.ExchangeError.{ExchangeError}
use Rattle.exchange.specs.declared.state.exchange_error.ExchangeError.TheVariants.{NotRead, Unread, WrongState, DoesNotFit, NoRows, NoChannels, NoName, NotPrintable, Memory}
use Rattle.exchange.specs.declared.state.signaling_state.SignalingState.TheVariants.{Stable}
use Rattle.exchange.specs.offer.Fits.{BreaksRule, FitsOffer}
use Rattle.exchange.specs.state.State.{pending_sdp}
use Rattle.std.specs.Prelude.{◌≡◌, ℕ, List, [], Option, Some, None, All}
use Rattle.str0m_formats.specs.declared.row.codec_config.CodecConfig.{CodecConfig}

-- the text is this description, and nothing follows it
abbrev pub IsAnswer : List ℕ → Sdp → Type 0
IsAnswer text answer = Reading text (answer, [])

-- why an answer with these rows after its rounds doesn't fit an offer
abbrev pub RefusesOfferFit : List PayloadParams → Sdp → Sdp → ExchangeError → Type 0
RefusesOfferFit ours offer answer (DoesNotFit section broken) = BreaksRule ours offer answer section broken
RefusesOfferFit ours offer answer Memory = Unit {0}
RefusesOfferFit ours offer answer _ = ⊥

-- what an open offer places
abbrev pub placed_by_offer : Option Pending → List AddedUnderMid
placed_by_offer None = []
placed_by_offer (Some pending) = pending.placed

abbrev pub offer_placed_of : Exchange → List AddedUnderMid
offer_placed_of exchange = placed_by_offer exchange.pending

-- the answer that the text is doesn't fit the open offer, where its rounds lead to some rows
pub record IsOfferMisfit (old : Exchange) (text : List ℕ) (section : ℕ) (rule : Rule) : Type 0 where
  pub offer : Sdp
  pub open_so : pending_sdp old ≡ Some offer
  pub answer : Sdp
  pub is_answer : IsAnswer text answer
  pub ours : List PayloadParams
  pub negotiated : NegotiatesOffer answer old.config.params.items ours
  pub breaks : BreaksRule ours offer answer section rule

-- why an answer isn't taken
abbrev pub RefusesAnswer : Exchange → List ℕ → ExchangeError → Type 0
RefusesAnswer old text (NotRead cause) = RefusesOfferedText text (NotRead cause)
RefusesAnswer old text (Unread line content) = RefusesOfferedText text (Unread line content)
RefusesAnswer old text (WrongState state) = (old.pending ≡ None) × (state ≡ Stable)
RefusesAnswer old text (DoesNotFit section broken) = IsOfferMisfit old text section broken
RefusesAnswer old text NoRows = ⊥
RefusesAnswer old text NoChannels = ⊥
RefusesAnswer old text NoName = ⊥
RefusesAnswer old text NotPrintable = ⊥
RefusesAnswer old text Memory = Unit {0}

-- the text is an answer that fits the open offer, and its rounds lead to this configuration
pub record IsAnswerTakenWith (old : Exchange) (text : List ℕ) (answer : Sdp) (after : CodecConfig) : Type 0 where
  pub offer : Pending
  pub open_so : old.pending ≡ Some offer
  pub read : IsAnswer text answer
  pub fits : FitsOffer after.params.items offer.sdp answer
  pub negotiated : NegotiatesOffer answer old.config.params.items after.params.items
  pub stay : LockedStay old.config.params.items after.params.items
  pub distinct : AllTypesDistinct (types old.config.params.items) → AllTypesDistinct (types after.params.items)
  pub plain : All IsPlain old.config.params.items → All IsPlain after.params.items
  pub distances : after.red_distances ≡ old.config.red_distances
