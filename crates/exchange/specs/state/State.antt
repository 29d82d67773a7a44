-- Where an exchange of offers and answers stands (RFC 8829, section 3.2).
use Rattle.exchange.specs.Prelude.{MediaLine, Sdp, SessionAttribute, section_mids}
use Rattle.exchange.specs.declared.offer.pending.Pending.{Pending}
use Rattle.exchange.specs.declared.state.exchange.Exchange.{Exchange}
use Rattle.exchange.specs.declared.state.signaling_state.SignalingState.{SignalingState}
use Rattle.exchange.specs.declared.state.signaling_state.SignalingState.TheVariants.{Stable, HaveLocalOffer}
use Rattle.std.specs.Prelude.{ℕ, List, [], ◌++◌, Option, Some, None, option_map}

-- stable where no offer of this side waits for its answer
abbrev pub state_by : Option Pending → SignalingState
state_by None = Stable
state_by (Some offer) = HaveLocalOffer

abbrev pub state_of : Exchange → SignalingState
state_of exchange = state_by exchange.pending

-- the offer that does
abbrev pub pending_sdp : Exchange → Option Sdp
pending_sdp exchange = option_map (λ offer. offer.sdp) exchange.pending

-- what a description has, where there is one: its sections, and the lines of its session
abbrev pub sections_of : Option Sdp → List MediaLine
sections_of None = []
sections_of (Some sdp) = sdp.media_lines

abbrev pub session_of : Option Sdp → List SessionAttribute
session_of None = []
session_of (Some sdp) = sdp.session.attrs

-- the names that sections of the session have, or have had
abbrev pub exchange_taken_names : Exchange → List (List ℕ)
exchange_taken_names exchange = section_mids (sections_of exchange.local) ++ exchange.names
