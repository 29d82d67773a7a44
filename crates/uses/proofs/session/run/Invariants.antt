use Rattle.exchange.specs.state.ExchangeFollows.{Follows, IsExchangeSound}
use Rattle.uses.proofs.session.run.Given as goal

-- the calls so far
abbrev pub invariant-loop-step : goal.invariant-loop-step
invariant-loop-step l = (IsExchangeSound l.fn.exchange → IsExchangeSound l.exchange)
    × (IsExchangeSound l.fn.exchange → Follows l.fn.exchange l.exchange)
