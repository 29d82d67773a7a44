-- What an exchange of offers and answers comes to.
use Rattle.exchange.specs.Prelude.{AreMidsDistinct, MediaKind, MediaLine, PayloadParams, Sdp, kind_rows, section_mids, versioned_text}
use Rattle.exchange.specs.answer.AnsweredSection.{AnswersSection}
use Rattle.exchange.specs.answer.AnsweredSession.{answered_session}
use Rattle.exchange.specs.answer.Offered.{IsOffer, NegotiatesOffer, RefusesOfferedText}
use Rattle.exchange.specs.declared.offer.rule.Rule.{Rule}
use Rattle.exchange.specs.declared.offer.rule.Rule.TheVariants.{OwnName, Place}
use Rattle.exchange.specs.declared.state.exchange.Exchange.{Exchange}
use Rattle.exchange.specs.declared.state.exchange_error.ExchangeError.{ExchangeError}
use Rattle.exchange.specs.declared.state.exchange_error.ExchangeError.TheVariants.{NotRead, Unread, WrongState, DoesNotFit, NoRows, NoChannels, NoName, NotPrintable, Memory}
use Rattle.exchange.specs.declared.state.own_side.OwnSide.{OwnSide}
use Rattle.exchange.specs.declared.state.signaling_state.SignalingState.TheVariants.{Stable}
use Rattle.exchange.specs.offer.FreshNames.{AreFresh, AreFreshNamesTooFew}
use Rattle.exchange.specs.offer.MadeOffer.{MakesOffer}
use Rattle.exchange.specs.offer.OwnNames.{IsNamedAgain}
use Rattle.exchange.specs.section.Places.{MovesPlaceAt}
use Rattle.exchange.specs.state.ReadBack.{IsReadBack}
use Rattle.exchange.specs.state.State.{sections_of, state_of, exchange_taken_names}
use Rattle.std.specs.List.{AllZip}
use Rattle.std.specs.Prelude.{◌≡◌, ◌≢◌, ℕ, true, List, [], Option, None, IsSomeAnd, length}

-- the description answers an offer, where this side has these rows: section by section, and as a whole
pub record AnswersOffer (own : OwnSide) (ours : List PayloadParams) (offer answer : Sdp) : Type 0 where
  pub sections : AllZip (AnswersSection own ours offer) offer.media_lines answer.media_lines
  pub session : answer.session ≡ answered_session own offer answer.media_lines

-- as many sections as the offer that was read last, each beside the one in its place as R says (RFC 3264, section 6)
abbrev pub EachSection : (Sdp → MediaLine → MediaLine → Type 0) → Option Sdp → Sdp → Type 0
EachSection R remote answer = IsSomeAnd remote (λ offer. AllZip (R offer) offer.media_lines answer.media_lines)

-- some answer to an offer isn't read back
pub record LosesAnswer (exchange : Exchange) (ours : List PayloadParams) (offer : Sdp) : Type 0 where
  pub answer : Sdp
  pub answers : AnswersOffer exchange.own ours offer answer
  pub lost : IsReadBack answer (versioned_text exchange.version answer) → ⊥

-- why an offer isn't answered with these rows
abbrev pub RefusesToAnswer : Exchange → List PayloadParams → Sdp → ExchangeError → Type 0
RefusesToAnswer exchange ours offer NotPrintable = LosesAnswer exchange ours offer
RefusesToAnswer exchange ours offer Memory = Unit {0}
RefusesToAnswer exchange ours offer _ = ⊥

-- some answer to the text isn't read back
pub record IsExchangeAnswerLost (old : Exchange) (text : List ℕ) : Type 0 where
  pub offer : Sdp
  pub is_offer : IsOffer text offer
  pub ours : List PayloadParams
  pub negotiated : NegotiatesOffer offer old.config.params.items ours
  pub loses : LosesAnswer old ours offer

-- which section of an offer isn't taken, and the rule that it breaks: it has the name of an earlier one, or no two have one name
-- and it isn't in its place after the last exchange
abbrev pub OfferBreaksAt : List (List ℕ) → List MediaLine → Option Sdp → Sdp → ℕ → Rule → Type 0
OfferBreaksAt names local remote offer section OwnName = IsNamedAgain offer.media_lines section
OfferBreaksAt names local remote offer section Place = AreMidsDistinct (section_mids offer.media_lines)
    × MovesPlaceAt names local remote offer section
OfferBreaksAt names local remote offer section _ = ⊥

-- why the sections of an offer aren't taken
abbrev pub RefusesSections : List (List ℕ) → List MediaLine → Option Sdp → Sdp → ExchangeError → Type 0
RefusesSections names local remote offer (DoesNotFit section broken) = OfferBreaksAt names local remote offer section broken
RefusesSections names local remote offer Memory = Unit {0}
RefusesSections names local remote offer _ = ⊥

-- the offer that the text is has a section that isn't taken
pub record IsExchangeRefusedAt (old : Exchange) (text : List ℕ) (section : ℕ) (broken : Rule) : Type 0 where
  pub offer : Sdp
  pub is_offer : IsOffer text offer
  pub breaks : OfferBreaksAt old.names (sections_of old.local) old.remote offer section broken

-- why an offer isn't answered
abbrev pub RefusesOffer : Exchange → List ℕ → ExchangeError → Type 0
RefusesOffer old text (NotRead cause) = RefusesOfferedText text (NotRead cause)
RefusesOffer old text (Unread line content) = RefusesOfferedText text (Unread line content)
RefusesOffer old text (WrongState state) = (state ≡ state_of old) × (state ≢ Stable)
RefusesOffer old text (DoesNotFit section broken) = IsExchangeRefusedAt old text section broken
RefusesOffer old text NoRows = ⊥
RefusesOffer old text NoChannels = ⊥
RefusesOffer old text NoName = ⊥
RefusesOffer old text NotPrintable = IsExchangeAnswerLost old text
RefusesOffer old text Memory = Unit {0}

-- why media isn't added
abbrev pub RefusesMedia : Exchange → MediaKind → ExchangeError → Type 0
RefusesMedia old kind NoRows = kind_rows kind true old.config.params.items ≡ []
RefusesMedia old kind Memory = Unit {0}
RefusesMedia old kind _ = ⊥

-- why data channels aren't
abbrev pub ExchangeRefusesChannels : Exchange → ExchangeError → Type 0
ExchangeRefusesChannels old NoChannels = old.own.channels ≡ None
ExchangeRefusesChannels old Memory = Unit {0}
ExchangeRefusesChannels old _ = ⊥

-- some offer that this side could make isn't read back
pub record IsLostOffer (old : Exchange) : Type 0 where
  pub names : List (List ℕ)
  pub to : ℕ
  pub are_fresh : AreFresh (exchange_taken_names old) 0 names to
  pub as_many : length names ≡ length old.added
  pub offer : Sdp
  pub makes : MakesOffer old names offer
  pub lost : IsReadBack offer (versioned_text old.version offer) → ⊥

-- why no offer is made
abbrev pub RefusesToOffer : Exchange → ExchangeError → Type 0
RefusesToOffer old (WrongState state) = (state ≡ state_of old) × (state ≢ Stable)
RefusesToOffer old NoName = AreFreshNamesTooFew (exchange_taken_names old) (length old.added)
RefusesToOffer old NotPrintable = IsLostOffer old
RefusesToOffer old Memory = Unit {0}
RefusesToOffer old _ = ⊥
