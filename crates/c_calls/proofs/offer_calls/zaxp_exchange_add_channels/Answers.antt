use Rattle.c_calls.proofs.offer_calls.zaxp_exchange_add_channels.Goals as goal
use Rattle.c_calls.specs.Common.{OfHandle}
use Rattle.c_parts.specs.Fault.{FaultRefusesCall, ToldFault}
use Rattle.c_parts.specs.declared.fault.Fault.TheVariants.{Refused}
use Rattle.exchange.specs.declared.state.exchange.Exchange.{Exchange}
use Rattle.exchange.specs.state.Exchange.{ExchangeRefusesChannels}
use Rattle.std.proofs.Common.{subst, sym}
use Rattle.std.specs.Prelude.{Option}

-- the fault is the error of the exchange
pub returns-in-Err-clause-refused : goal.returns-in-Err-clause-refused
returns-in-Err-clause-refused c = λ failed.
    subst (λ (inner : Option Exchange). OfHandle inner
    (λ before. ToldFault (FaultRefusesCall (ExchangeRefusesChannels before)) c.tell_error.result))
    (sym c.take-exchange.ensures.0) (
      Refused c.in-Err.error,
      subst (λ (before : Exchange). ExchangeRefusesChannels before c.in-Err.error) c.deref_mut.ensures.value
          c.in-Err.ensures.refused,
      c.tell_error.ensures.code,
    )
