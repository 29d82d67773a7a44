-- The text of a candidate, which stands after `a=` (RFC 8839 section 5.1; for tcptype RFC 6544 section 4.5).
use Rattle.std.specs.Prelude.{◌≡◌, ◌⊎◌, ◌<◌, ◌^◌, IfSome, ℕ, List, [], ◌++◌, Option, Some, None, codes, decimal}
use Rattle.str0m_values.specs.Address.{IsIpText, IsAddressInRange, ip_text}
use Rattle.str0m_values.specs.CandidateKind.{IsKindText, kind_text}
use Rattle.str0m_values.specs.CutsParts.{IsWord, IsNum}
use Rattle.str0m_values.specs.Labels.{IsSameLabel, IsLabelled, IsOptionalLabelled, IsOptionalLabelUnkept, optional_text}
use Rattle.str0m_values.specs.Protocol.{IsProtocolText, IsTcpTypeText, protocol_text, tcp_type_text}
use Rattle.str0m_values.specs.declared.address.SocketAddr.{SocketAddr}
use Rattle.str0m_values.specs.declared.candidate.Candidate.{Candidate}
use Rattle.str0m_values.specs.declared.candidate_label.TheConstants as candidate_label

-- ---- what a text stands for

-- a word that is an address and a word that is a port, each after its label
abbrev pub IsCandidateSocket : List ℕ → List ℕ → List ℕ → SocketAddr → Type 0
IsCandidateSocket ip_label port_label text addr =
    (ip : List ℕ) × (port : List ℕ) × (text ≡ ip ++ port) × IsLabelled ip_label IsIpText ip addr.ip × IsLabelled port_label (IsNum 65535) port addr.port

-- nothing, or ` raddr ` address ` rport ` port
abbrev pub IsRelatedAddress : List ℕ → Option SocketAddr → Type 0
IsRelatedAddress text None = text ≡ []
IsRelatedAddress text (Some addr) = IsCandidateSocket candidate_label.RELATED_ADDRESS.now candidate_label.RELATED_PORT.now text addr

-- a network's id and a name fragment, each of them or not; where both stand, in any order
abbrev pub AreIceNames : List ℕ → Option (List ℕ) → Type 0
AreIceNames text ufrag =
    ((network : List ℕ) × (name : List ℕ) × (text ≡ network ++ name) × IsOptionalLabelUnkept candidate_label.NETWORK_ID.now network × IsOptionalLabelled candidate_label.UFRAG.now IsSameLabel name ufrag)
    ⊎ ((name : List ℕ) × (network : List ℕ) × (word : List ℕ) × (fragment : List ℕ) × (text ≡ name ++ network)
    × IsLabelled candidate_label.UFRAG.now IsSameLabel name fragment × IsLabelled candidate_label.NETWORK_ID.now IsSameLabel network word × (ufrag ≡ Some fragment))

-- the text stands for the candidate: seven parts, and then each of the others or not, in this order
pub record IsCandidateText (text : List ℕ) (c : Candidate) : Type 0 where
  pub foundation : List ℕ
  pub component : List ℕ
  pub protocol : List ℕ
  pub priority : List ℕ
  pub address : List ℕ
  pub kind : List ℕ
  pub related : List ℕ
  pub tcp_type : List ℕ
  pub generation : List ℕ
  pub names : List ℕ
  pub cost : List ℕ
  pub joined : text ≡ foundation ++ (component ++ (protocol ++ (priority ++ (address ++ (kind ++ (related ++ (tcp_type ++ (generation ++ (names ++ cost)))))))))
  pub foundation_is : IsLabelled candidate_label.CANDIDATE.now IsSameLabel foundation c.foundation
  pub component_is : IsLabelled (codes " ") (IsNum 65535) component c.component_id
  pub protocol_is : IsLabelled (codes " ") IsProtocolText protocol c.proto
  pub priority_is : IsLabelled (codes " ") (IsNum 4294967295) priority c.prio
  pub address_is : IsCandidateSocket (codes " ") (codes " ") address c.addr
  pub kind_is : IsLabelled candidate_label.TYPE.now IsKindText kind c.kind
  pub related_is : IsRelatedAddress related c.raddr
  pub tcp_type_is : IsOptionalLabelled candidate_label.TCP_TYPE.now IsTcpTypeText tcp_type c.tcptype
  pub generation_is : IsOptionalLabelUnkept candidate_label.GENERATION.now generation
  pub names_are : AreIceNames names c.ufrag
  pub cost_is : IsOptionalLabelUnkept candidate_label.NETWORK_COST.now cost

-- ---- what is printed

-- an address and a port, each after its label
abbrev pub socket_text : List ℕ → List ℕ → SocketAddr → List ℕ
socket_text ip_label port_label addr = ip_label ++ (ip_text addr.ip ++ (port_label ++ decimal addr.port))

abbrev pub related_text : Option SocketAddr → List ℕ
related_text None = []
related_text (Some addr) = socket_text candidate_label.RELATED_ADDRESS.now candidate_label.RELATED_PORT.now addr

-- the parts that stand after the kind
abbrev pub extras_text : Candidate → List ℕ
extras_text c = related_text c.raddr ++ (optional_text candidate_label.TCP_TYPE.now tcp_type_text c.tcptype ++ optional_text candidate_label.UFRAG.now (λ t. t) c.ufrag)

abbrev pub candidate_text : Candidate → List ℕ
candidate_text c =
    candidate_label.CANDIDATE.now ++ (c.foundation ++ (codes " " ++ (decimal c.component_id ++ (codes " " ++ (protocol_text c.proto ++ (codes " " ++ (decimal c.prio
    ++ (socket_text (codes " ") (codes " ") c.addr ++ (candidate_label.TYPE.now ++ (kind_text c.kind ++ extras_text c))))))))))

-- what its types keep
abbrev pub IsCandidateSocketInRange : SocketAddr → Type 0
IsCandidateSocketInRange addr = IsAddressInRange addr.ip × (addr.port < 2 ^ 16)

-- a candidate whose numbers keep to their types and whose texts are words
pub record IsPrintableCandidate (c : Candidate) : Type 0 where
  pub foundation : IsWord c.foundation
  pub component_id : c.component_id < 2 ^ 16
  pub prio : c.prio < 2 ^ 32
  pub addr : IsCandidateSocketInRange c.addr
  pub raddr : IfSome c.raddr IsCandidateSocketInRange
  pub ufrag : IfSome c.ufrag IsWord
