-- Reading of a candidate's text as functions. The relations are in Candidate.
use Rattle.std.specs.Prelude.{ℕ, List, Option, Some, None, ◌||◌, is_some, is_none, if◌then◌else◌, codes}
use Rattle.str0m_values.specs.AddressReading.{ip_read}
use Rattle.str0m_values.specs.CandidateKind.{kind_text}
use Rattle.str0m_values.specs.Cuts.{◌>>=◌, strip, is_rest, num}
use Rattle.str0m_values.specs.LabelReading.{labelled_read, labelled_part_read, optional_label_read, word_value_read}
use Rattle.str0m_values.specs.Protocol.{protocol_text, tcp_type_text}
use Rattle.str0m_values.specs.Words.{case_alike, case_of}
use Rattle.str0m_values.specs.declared.address.SocketAddr.{SocketAddr}
use Rattle.str0m_values.specs.declared.candidate.Candidate.{Candidate}
use Rattle.str0m_values.specs.declared.candidate_kind.CandidateKind.{CandidateKind}
use Rattle.str0m_values.specs.declared.candidate_kind.TheConstants.{KINDS}
use Rattle.str0m_values.specs.declared.candidate_label.TheConstants as candidate_label
use Rattle.str0m_values.specs.declared.protocol.Protocol.{Protocol}
use Rattle.str0m_values.specs.declared.protocol.TcpType.{TcpType}
use Rattle.str0m_values.specs.declared.protocol.TheConstants.{PROTOCOLS, TCP_TYPES}

abbrev pub candidate_protocol_read : List ℕ → Option Protocol
candidate_protocol_read word = case_alike protocol_text PROTOCOLS word

abbrev pub tcp_type_read : List ℕ → Option TcpType
tcp_type_read word = case_alike tcp_type_text TCP_TYPES word

abbrev pub candidate_kind_read : List ℕ → Option CandidateKind
candidate_kind_read word = case_of kind_text KINDS word

-- an address and a port, each after its label, and what stands after them
abbrev pub candidate_socket_read : List ℕ → List ℕ → List ℕ → Option (SocketAddr × List ℕ)
candidate_socket_read ip_label port_label text = do
  ip ← labelled_part_read ip_label ip_read text
  port ← labelled_part_read port_label (num 65535) ip.1
  Some (record { ip = ip.0; port = port.0 }, port.1)

abbrev pub candidate_related_read : List ℕ → Option (Option SocketAddr × List ℕ)
candidate_related_read text =
    if is_some (strip candidate_label.RELATED_ADDRESS.now text)
    then (candidate_socket_read candidate_label.RELATED_ADDRESS.now candidate_label.RELATED_PORT.now text >>= λ addr. Some (Some addr.0, addr.1))
    else Some (None, text)

abbrev pub tcp_part_read : List ℕ → Option (Option TcpType × List ℕ)
tcp_part_read text = do
  word ← optional_label_read candidate_label.TCP_TYPE.now text
  tcp_type ← word_value_read tcp_type_read word.0
  Some (tcp_type, word.1)

-- a network's id is looked for after the name fragment where none stood before it
abbrev pub ice_names_read : List ℕ → Option (Option (List ℕ) × List ℕ)
ice_names_read text = do
  network ← optional_label_read candidate_label.NETWORK_ID.now text
  name ← optional_label_read candidate_label.UFRAG.now network.1
  if is_some network.0 || is_none name.0 then Some name
      else (optional_label_read candidate_label.NETWORK_ID.now name.1 >>= λ behind. Some (name.0, behind.1))

-- what stands in front of the address
pub record CandidateLead : Type 0 where
  pub foundation : List ℕ
  pub component_id : ℕ
  pub proto : Protocol
  pub prio : ℕ

abbrev pub candidate_lead_read : List ℕ → Option (CandidateLead × List ℕ)
candidate_lead_read text = do
  foundation ← labelled_read candidate_label.CANDIDATE.now text
  component ← labelled_part_read (codes " ") (num 65535) foundation.1
  protocol ← labelled_part_read (codes " ") candidate_protocol_read component.1
  priority ← labelled_part_read (codes " ") (num 4294967295) protocol.1
  Some (record { foundation = foundation.0; component_id = component.0; proto = protocol.0; prio = priority.0 }, priority.1)

-- the name fragment of the last parts, after which nothing stands
abbrev pub candidate_last_read : List ℕ → Option (Option (List ℕ))
candidate_last_read text = do
  generation ← optional_label_read candidate_label.GENERATION.now text
  names ← ice_names_read generation.1
  cost ← optional_label_read candidate_label.NETWORK_COST.now names.1
  if is_rest cost.1 then None else Some names.0

-- what is kept of the parts after the kind
pub record CandidateExtras : Type 0 where
  pub raddr : Option SocketAddr
  pub tcptype : Option TcpType
  pub ufrag : Option (List ℕ)

abbrev pub candidate_extras_read : List ℕ → Option CandidateExtras
candidate_extras_read text = do
  related ← candidate_related_read text
  tcp_type ← tcp_part_read related.1
  ufrag ← candidate_last_read tcp_type.1
  Some (record { raddr = related.0; tcptype = tcp_type.0; ufrag = ufrag })

-- the candidate that has these parts
abbrev pub candidate_of : CandidateLead → SocketAddr → CandidateKind → CandidateExtras → Candidate
candidate_of lead addr kind extras = record {
  foundation = lead.foundation;
  component_id = lead.component_id;
  proto = lead.proto;
  prio = lead.prio;
  addr = addr;
  kind = kind;
  raddr = extras.raddr;
  tcptype = extras.tcptype;
  ufrag = extras.ufrag;
}

abbrev pub candidate_read : List ℕ → Option Candidate
candidate_read text = do
  lead ← candidate_lead_read text
  address ← candidate_socket_read (codes " ") (codes " ") lead.1
  kind ← labelled_part_read candidate_label.TYPE.now candidate_kind_read address.1
  extras ← candidate_extras_read kind.1
  Some (candidate_of lead.0 address.0 kind.0 extras)
