-- Why an offer isn't answered.
use Rattle.exchange.specs.declared.state.exchange_error.ExchangeError.{ExchangeError}
use Rattle.exchange.specs.declared.state.exchange_error.ExchangeError.TheVariants.{NotRead, Memory}
use Rattle.str0m_sdp.specs.declared.session.error.SdpError.{SdpError}
use Rattle.str0m_sdp.specs.declared.session.error.SdpError.TheVariants as sdp

-- what a reader refuses, but for refused memory
abbrev pub not_read_error : SdpError → ExchangeError
not_read_error sdp.Memory = Memory
not_read_error cause = NotRead cause
