use Rattle.c_calls.proofs.OfferCallsFilled.{offer_of_full}
use Rattle.c_calls.proofs.exchange_calls.zaxp_exchange_accept_offer.Goals as goal
use Rattle.c_parts.specs.declared.fault.Fault.TheVariants.{Refused}
use Rattle.exchange.specs.declared.state.exchange_error.ExchangeError.TheVariants.{Memory}
use Rattle.std.proofs.Common.{refl}

-- no memory was left for a place
pub returns-in_default-clause-refused : goal.returns-in_default-clause-refused
returns-in_default-clause-refused c = λ failed. offer_of_full _ c.args.handle.now.inner c.requires.handle
    (λ before. (Refused Memory, tt, refl, refl))
