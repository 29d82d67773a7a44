-- What is said of why a session description is refused.
use Rattle.std.specs.Prelude.{ℕ, List, codes, ◌++◌, string_bytes}
use Rattle.str0m_sdp.specs.declared.session.error.SdpError.{SdpError}
use Rattle.str0m_sdp.specs.declared.session.error.SdpError.TheVariants.{ParseError, Inconsistent, Memory}

abbrev pub error_text : SdpError → List ℕ
error_text (ParseError message) = codes "SDP parse: " ++ string_bytes message
error_text (Inconsistent message) = codes "SDP inconsistent: " ++ string_bytes message
error_text Memory = codes "SDP: out of memory"
