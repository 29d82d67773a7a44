-- What an exchange of offers and answers is behind a call.
use Rattle.c_calls.specs.Common.{OfHandle}
use Rattle.c_calls.specs.Prelude.{AllTypesDistinct, AnswersOffer, AreMidsDistinct, AreFresh, BundlesAccepted, CodecConfig, Direction, EachSection, Exchange, FitsOffer, Follows, HasOfferedShape, IsAcceptedExactlyByRules, IsAnswer, IsNewOfferName, IsOffer, IsOffered, IsPlain, IsReadBack, IsExchangeSound, KeepsOfferPlaces, KeepsRules, LockedStay, MakesOffer, NegotiatesOffer, OwnNumbers, OwnSide, OwnTexts, SaysOwnSide, Sdp, SignalingState, StaysInPlaces, grown_names, pending_sdp, offer_placed_as, offer_placed_of, offer_ready_with, section_mids, sections_of, state_of, exchange_taken_names, tracks, types, versioned_text, with_own_side_entry, with_offer_placed}
use Rattle.exchange.specs.declared.state.signaling_state.SignalingState.TheVariants.{HaveLocalOffer, Stable}
use Rattle.std.specs.Prelude.{◌≡◌, ◌+◌, ◌-◌, ◌^◌, [], ℕ, List, All, IsSomeAnd, None, Option, Some, drop, length, min}

-- an offer of the other side is answered
pub record AcceptsOffer (before after : Exchange) (text : List ℕ) (answer : Sdp) (version : ℕ) : Type 0 where
  -- no offer of this side was open; the text is an offer whose sections are in their places
  pub stable : state_of before ≡ Stable
  pub read : IsSomeAnd after.remote (IsOffer text)
  pub different : IsSomeAnd after.remote (λ offer. AreMidsDistinct (section_mids offer.media_lines))
  pub placed : IsSomeAnd after.remote (StaysInPlaces before.names (sections_of before.local) before.remote)
  -- the answer answers it, line by line, by the rules and with its bundle, and the other side reads it as what it says
  pub answers : IsSomeAnd after.remote (λ offer. AnswersOffer before.own after.config.params.items offer answer)
  pub shape : EachSection (λ offer. HasOfferedShape) after.remote answer
  pub exactly : EachSection (IsAcceptedExactlyByRules before.own after.config.params.items) after.remote answer
  pub rules : EachSection (KeepsRules before.own after.config.params.items) after.remote answer
  pub bundle : IsSomeAnd after.remote (λ offer. BundlesAccepted offer answer)
  pub tracks : AreMidsDistinct (tracks answer)
  pub read_back : IsReadBack answer (versioned_text version answer)
  pub version_is : version ≡ before.version
  -- the rounds of the offer are run, and rows that were locked stay locked
  pub negotiated : IsSomeAnd after.remote (λ offer. NegotiatesOffer offer before.config.params.items after.config.params.items)
  pub stay : LockedStay before.config.params.items after.config.params.items
  pub distinct : AllTypesDistinct (types before.config.params.items) → AllTypesDistinct (types after.config.params.items)
  pub plain : All IsPlain before.config.params.items → All IsPlain after.config.params.items
  pub distances : after.config.red_distances ≡ before.config.red_distances
  -- the answer is this side's description from then on, and the next has the next version
  pub local : after.local ≡ Some answer
  pub next : after.version ≡ min (before.version + 1) (2 ^ 64 - 1)
  pub names : after.names ≡ grown_names before.names answer.media_lines
  pub own_same : after.own ≡ before.own
  pub else_same : (after.pending ≡ before.pending) × (after.added ≡ before.added)
  pub follows : Follows before after
  pub sound : IsExchangeSound before → IsExchangeSound after

-- this side makes an offer
pub record CreatesOffer (before after : Exchange) (offer : Sdp) (version : ℕ) : Type 0 where
  pub stable : state_of before ≡ Stable
  -- what was added stands under names that no section of the session has had
  pub names : List (List ℕ)
  pub fresh : (to : ℕ) × AreFresh (exchange_taken_names before) 0 names to
  pub as_many : length names ≡ length before.added
  pub new : All (IsNewOfferName before) names
  -- it is offered with what goes on, by the rules, and the other side reads it as what it says
  pub says : MakesOffer before names offer
  pub places : KeepsOfferPlaces before 0 (sections_of before.local) offer.media_lines
  pub rules : All (IsOffered before (offer_ready_with before names)) offer.media_lines
  pub different : AreMidsDistinct (section_mids (sections_of before.local)) → AreMidsDistinct (section_mids offer.media_lines)
  pub read_back : IsReadBack offer (versioned_text version offer)
  pub version_is : version ≡ before.version
  -- it waits for its answer, and the next description has the next version
  pub waits : after ≡ record before {
    pending = Some (record { sdp = offer; placed = offer_placed_as before names });
    version = min (before.version + 1) (2 ^ 64 - 1);
  }
  pub follows : Follows before after
  pub sound : IsExchangeSound before → IsExchangeSound after

-- the other side's answer is taken
pub record AcceptsAnswer (before after : Exchange) (text : List ℕ) : Type 0 where
  -- an offer of this side was open, which the text answers, and it fits
  pub waiting : state_of before ≡ HaveLocalOffer
  pub read : IsSomeAnd after.remote (IsAnswer text)
  pub fits : IsSomeAnd after.local (λ offer. IsSomeAnd after.remote (FitsOffer after.config.params.items offer))
  -- its rounds are run, and rows that were locked stay locked
  pub negotiated : IsSomeAnd after.remote (λ answer. NegotiatesOffer answer before.config.params.items after.config.params.items)
  pub stay : LockedStay before.config.params.items after.config.params.items
  pub distinct : AllTypesDistinct (types before.config.params.items) → AllTypesDistinct (types after.config.params.items)
  pub plain : All IsPlain before.config.params.items → All IsPlain after.config.params.items
  pub distances : after.config.red_distances ≡ before.config.red_distances
  -- the offer is this side's description from then on, and what it placed is no longer added
  pub local : after.local ≡ pending_sdp before
  pub stable : state_of after ≡ Stable
  pub names : after.names ≡ grown_names before.names (sections_of after.local)
  pub own : after.own ≡ record before.own { directions = with_offer_placed before.own.directions (offer_placed_of before) }
  pub added : after.added ≡ drop (length (offer_placed_of before)) before.added
  pub version_same : after.version ≡ before.version
  pub follows : IsExchangeSound before → Follows before after
  pub sound : IsExchangeSound before → IsExchangeSound after

-- an exchange in which nothing was said yet
abbrev pub exchange_begun : OwnSide → CodecConfig → Exchange
exchange_begun own config = record { own = own; config = config; local = None; remote = None; pending = None; version = 1; added = []; names = [] }

-- with a configuration one side begins, which is what the numbers and the texts say
abbrev pub BeginsExchange : OwnNumbers → OwnTexts → Option CodecConfig → Option Exchange → Type 0
BeginsExchange numbers texts config after = (own : OwnSide) × SaysOwnSide numbers texts own × OfHandle config (λ it. after ≡ Some (exchange_begun own it))

-- this side is ready for a direction in the section of a name, from its next description on (RFC 3264, section 8.4)
abbrev pub turned_exchange : List ℕ → Direction → Exchange → Exchange
turned_exchange mid direction before =
    record before { own = record before.own { directions = with_own_side_entry mid direction before.own.directions } }

-- what a handle held becomes this, and another handle gets that
abbrev pub ExchangeGoes : {X Y : Type 0} → (X → X → Y → Type 0) → Option X → Option X → Option Y → Type 0
ExchangeGoes R before after other = OfHandle before (λ it. OfHandle after (λ then. OfHandle other (λ got. R it then got)))

-- the number of a state
abbrev pub exchange_state_number : SignalingState → ℕ
exchange_state_number Stable = 0
exchange_state_number HaveLocalOffer = 1
