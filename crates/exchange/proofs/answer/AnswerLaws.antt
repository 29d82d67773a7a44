-- Why an answer isn't taken, or none is given.
use Rattle.exchange.proofs.Common.{◌≡◌, List, ℕ, Some, PayloadParams, Sdp}
use Rattle.exchange.specs.answer.Offered.{IsOffer, NegotiatesOffer}
use Rattle.exchange.specs.declared.state.exchange.Exchange.{Exchange}
use Rattle.exchange.specs.declared.state.exchange_error.ExchangeError.{ExchangeError}
use Rattle.exchange.specs.declared.state.exchange_error.ExchangeError.TheVariants.{DoesNotFit, Memory, NotPrintable}
use Rattle.exchange.specs.offer.AcceptedAnswer.{IsAnswer, RefusesAnswer, RefusesOfferFit}
use Rattle.exchange.specs.state.Exchange.{RefusesOffer, RefusesToAnswer}
use Rattle.exchange.specs.state.State.{pending_sdp}

-- what doesn't fit the open offer
pub answer_misfit : (old : Exchange) (text : List ℕ) (offer answer : Sdp) (ours : List PayloadParams) (error : ExchangeError)
    → RefusesOfferFit ours offer answer error
    → pending_sdp old ≡ Some offer → IsAnswer text answer → NegotiatesOffer answer old.config.params.items ours
    → RefusesAnswer old text error
answer_misfit old text offer answer ours (DoesNotFit section broken) breaks open_so is_answer negotiated =
    record {
      offer = offer;
      open_so = open_so;
      answer = answer;
      is_answer = is_answer;
      ours = ours;
      negotiated = negotiated;
      breaks = breaks;
    }
answer_misfit old text offer answer ours Memory breaks open_so is_answer negotiated = tt
answer_misfit old text offer answer ours _ breaks open_so is_answer negotiated = absurd breaks

-- what the other side wouldn't read as it is said
pub answer_unprintable : (old : Exchange) (text : List ℕ) (offer : Sdp) (ours : List PayloadParams) (error : ExchangeError)
    → IsOffer text offer
    → NegotiatesOffer offer old.config.params.items ours → RefusesToAnswer old ours offer error → RefusesOffer old text error
answer_unprintable old text offer ours NotPrintable is_offer negotiated loses =
    record { offer = offer; is_offer = is_offer; ours = ours; negotiated = negotiated; loses = loses }
answer_unprintable old text offer ours Memory is_offer negotiated loses = tt
answer_unprintable old text offer ours _ is_offer negotiated loses = absurd loses
