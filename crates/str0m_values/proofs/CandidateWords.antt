-- The words for protocols, TCP types and kinds of candidates, read both ways.
use Rattle.str0m_values.proofs.Common.{arith, ◌≡◌, Some, str_to_ascii_lowercase}
use Rattle.str0m_values.proofs.CutsBothWays.{Reads}
use Rattle.str0m_values.proofs.WordsOfCases.{words_read_alike, reads_words}
use Rattle.str0m_values.specs.CandidateKind.{kind_text, IsKindText}
use Rattle.str0m_values.specs.CandidateReading.{candidate_protocol_read, tcp_type_read, candidate_kind_read}
use Rattle.str0m_values.specs.Protocol.{protocol_text, tcp_type_text, IsProtocolText, IsTcpTypeText}
use Rattle.str0m_values.specs.Words.{case_alike, case_of}
use Rattle.str0m_values.specs.declared.candidate_kind.CandidateKind.{CandidateKind}
use Rattle.str0m_values.specs.declared.candidate_kind.TheConstants.{KINDS}
use Rattle.str0m_values.specs.declared.protocol.Protocol.{Protocol}
use Rattle.str0m_values.specs.declared.protocol.TcpType.{TcpType}
use Rattle.str0m_values.specs.declared.protocol.TheConstants.{PROTOCOLS, TCP_TYPES}

-- each case by its own word, which is in lower case
candidate_protocol_own : (p : Protocol) → (str_to_ascii_lowercase (protocol_text p) ≡ protocol_text p)
    × (case_alike protocol_text PROTOCOLS (protocol_text p) ≡ Some p)
unfolding case_alike
candidate_protocol_own p = grind arith

tcp_type_own : (t : TcpType) → (str_to_ascii_lowercase (tcp_type_text t) ≡ tcp_type_text t)
    × (case_alike tcp_type_text TCP_TYPES (tcp_type_text t) ≡ Some t)
unfolding case_alike
tcp_type_own t = grind arith

kind_own : (k : CandidateKind) → case_of kind_text KINDS (kind_text k) ≡ Some k
unfolding case_of
kind_own k = grind arith

pub candidate_protocol_both : Reads IsProtocolText candidate_protocol_read
candidate_protocol_both = words_read_alike protocol_text PROTOCOLS (λ p. (candidate_protocol_own p).0) (λ p. (candidate_protocol_own p).1)

pub tcp_type_both : Reads IsTcpTypeText tcp_type_read
tcp_type_both = words_read_alike tcp_type_text TCP_TYPES (λ t. (tcp_type_own t).0) (λ t. (tcp_type_own t).1)

pub kind_both : Reads IsKindText candidate_kind_read
kind_both = reads_words kind_text KINDS kind_own
