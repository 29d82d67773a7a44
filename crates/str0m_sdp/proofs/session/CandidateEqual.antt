-- When two candidates are equal: `==` of each part decides, and so does that of the whole.
use Rattle.str0m_sdp.proofs.Common.{◌≡◌, Decides, IpAddr, Candidate, ParamEqualityTest, param_eq_along, param_equality, param_eq_word}
use Rattle.str0m_sdp.specs.session.Candidates.{same_candidate}
use Rattle.str0m_values.specs.contracts.address.IpAddr as ip_type
use Rattle.str0m_values.specs.contracts.candidate_kind.CandidateKind as kind
use Rattle.str0m_values.specs.contracts.protocol.Protocol as protocol
use Rattle.str0m_values.specs.contracts.protocol.TcpType as tcp_type

abbrev candidate_ip_equality : ParamEqualityTest IpAddr
candidate_ip_equality = param_eq_along ip_type.as_values ip_type.the_make ip_type.the_eta (hlevel param_equality)

abbrev pub eq_candidate : ParamEqualityTest Candidate
eq_candidate = hlevel (
  candidate_ip_equality,
  param_eq_word kind.the_type tt,
  param_eq_word protocol.the_type tt,
  param_eq_word tcp_type.the_type tt,
  param_equality,
)

pub candidate_Decides : (a b : Candidate) → Decides (same_candidate a b) (a ≡ b)
candidate_Decides a b = eq_candidate.decides a b
