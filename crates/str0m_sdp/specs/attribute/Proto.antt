-- The protocols of m-lines, as they print.
use Rattle.std.specs.Prelude.{ℕ, List}
use Rattle.str0m_sdp.specs.declared.attribute.proto.Proto.{Proto}
use Rattle.str0m_sdp.specs.declared.attribute.proto.Proto.TheVariants.{Srtp, Sctp}
use Rattle.str0m_sdp.specs.declared.label.TheConstants.{SRTP, SCTP}

abbrev pub proto_text : Proto → List ℕ
proto_text Srtp = SRTP.now
proto_text Sctp = SCTP.now
