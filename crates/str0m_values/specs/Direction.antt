-- The ways in which media flow (RFC 8866, section 6.7), and how the two sides say them (RFC 3264, section 6.1).
use Rattle.std.specs.Prelude.{◌≡◌, ◌&&◌, ℕ, Bool, true, false, List}
use Rattle.str0m_values.specs.declared.direction.Direction.{Direction}
use Rattle.str0m_values.specs.declared.direction.Direction.TheVariants.{SendRecv, SendOnly, RecvOnly, Inactive}
use Rattle.str0m_values.specs.declared.direction_label.TheConstants as label

abbrev pub direction_text : Direction → List ℕ
direction_text SendRecv = label.SEND_RECV.now
direction_text SendOnly = label.SEND_ONLY.now
direction_text RecvOnly = label.RECV_ONLY.now
direction_text Inactive = label.INACTIVE.now

-- whether the side that says so sends
abbrev pub sends : Direction → Bool
sends SendRecv = true
sends SendOnly = true
sends RecvOnly = false
sends Inactive = false

-- whether the side that says so receives
abbrev pub receives : Direction → Bool
receives SendRecv = true
receives SendOnly = false
receives RecvOnly = true
receives Inactive = false

-- the same flow as the other side says it
abbrev pub inverted_direction : Direction → Direction
inverted_direction SendRecv = SendRecv
inverted_direction SendOnly = RecvOnly
inverted_direction RecvOnly = SendOnly
inverted_direction Inactive = Inactive

-- an answer sends where the offer receives and its own side sends, and there alone; it receives likewise (RFC 3264, section 6.1)
pub record AnswersDirection (offered own answered : Direction) : Type 0 where
  pub sending : sends answered ≡ (receives offered && sends own)
  pub receiving : receives answered ≡ (sends offered && receives own)
