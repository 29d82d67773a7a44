-- Candidates in the order of their parts.
use Rattle.std.specs.Prelude.{◌≡◌, ℕ, option_map}
use Rattle.str0m_sdp.specs.Prelude.{Candidate, CandidateKind, IpAddr, Protocol, SocketAddr, TcpType}
use Rattle.str0m_sdp.specs.declared.session.candidate_key.CandidateKey.{CandidateKey}
use Rattle.str0m_sdp.specs.declared.session.candidate_key.IpPart.{IpPart}
use Rattle.str0m_sdp.specs.declared.session.candidate_key.IpPart.TheVariants as part
use Rattle.str0m_values.specs.declared.address.IpAddr.TheVariants as address
use Rattle.str0m_values.specs.declared.candidate_kind.CandidateKind.TheVariants.{Host, PeerReflexive, ServerReflexive, Relayed}
use Rattle.str0m_values.specs.declared.protocol.Protocol.TheVariants.{Udp, Tcp, SslTcp, Tls}
use Rattle.str0m_values.specs.declared.protocol.TcpType.TheVariants.{Active, Passive, So}

-- an address by its numbers
abbrev pub candidate_ip_part : IpAddr → IpPart
candidate_ip_part (address.V4 bytes) = part.V4 bytes
candidate_ip_part (address.V6 groups) = part.V6 groups

abbrev pub address_part : SocketAddr → IpPart × ℕ
address_part addr = (candidate_ip_part addr.ip, addr.port)

-- words by numbers
abbrev pub protocol_part : Protocol → ℕ
protocol_part Udp = 0
protocol_part Tcp = 1
protocol_part SslTcp = 2
protocol_part Tls = 3

abbrev pub candidate_kind_part : CandidateKind → ℕ
candidate_kind_part Host = 0
candidate_kind_part PeerReflexive = 1
candidate_kind_part ServerReflexive = 2
candidate_kind_part Relayed = 3

abbrev pub type_part : TcpType → ℕ
type_part Active = 0
type_part Passive = 1
type_part So = 2

-- the key has the parts of the candidate
pub record IsKeyOf (candidate : Candidate) (key : CandidateKey) : Type 0 where
  pub foundation : key.foundation.now ≡ candidate.foundation
  pub component_id : key.component_id ≡ candidate.component_id
  pub proto : key.proto ≡ protocol_part candidate.proto
  pub prio : key.prio ≡ candidate.prio
  pub addr : key.addr ≡ address_part candidate.addr
  pub kind : key.kind ≡ candidate_kind_part candidate.kind
  pub raddr : key.raddr ≡ option_map address_part candidate.raddr
  pub tcptype : key.tcptype ≡ option_map type_part candidate.tcptype
  pub ufrag : option_map (λ text. text.now) key.ufrag ≡ candidate.ufrag
