-- The states of an exchange, as RFC 8829, section 3.2, names them.
use Rattle.exchange.specs.declared.state.signaling_state.SignalingState.{SignalingState}
use Rattle.exchange.specs.declared.state.signaling_state.SignalingState.TheVariants.{Stable, HaveLocalOffer}
use Rattle.std.specs.Prelude.{ℕ, List, codes}

abbrev pub state_text : SignalingState → List ℕ
state_text Stable = codes "stable"
state_text HaveLocalOffer = codes "have-local-offer"
