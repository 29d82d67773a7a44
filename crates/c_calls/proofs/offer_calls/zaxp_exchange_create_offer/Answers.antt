use Rattle.c_calls.proofs.OfferCallsFilled.{offer_of_full}
use Rattle.c_calls.proofs.offer_calls.zaxp_exchange_create_offer.Goals as goal
use Rattle.c_calls.specs.Common.{OfHandle}
use Rattle.c_parts.specs.Fault.{FaultRefusesCall, ToldFault}
use Rattle.c_parts.specs.declared.fault.Fault.TheVariants.{Refused}
use Rattle.exchange.specs.declared.state.exchange.Exchange.{Exchange}
use Rattle.exchange.specs.declared.state.exchange_error.ExchangeError.TheVariants.{Memory}
use Rattle.exchange.specs.state.Exchange.{RefusesToOffer}
use Rattle.std.proofs.Common.{refl, subst, sym}
use Rattle.std.specs.Prelude.{Option}

-- no memory was left for a place
pub returns-in_default-clause-refused : goal.returns-in_default-clause-refused
returns-in_default-clause-refused c = λ failed. offer_of_full _ c.args.handle.now.inner c.requires.handle
    (λ before. (Refused Memory, tt, refl))

-- the fault is the error of the exchange
pub returns-in-Err-clause-refused : goal.returns-in-Err-clause-refused
returns-in-Err-clause-refused c = λ failed.
    subst (λ (inner : Option Exchange). OfHandle inner (λ before. ToldFault (FaultRefusesCall (RefusesToOffer before)) c.tell_error.result))
    (sym c.take-exchange.ensures.0) (
      Refused c.in-Err.error,
      subst (λ (before : Exchange). RefusesToOffer before c.in-Err.error) c.deref_mut.ensures.value
          c.in-Err.ensures.refused,
      c.tell_error.ensures.code,
    )
