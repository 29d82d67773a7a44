-- What is printed of a candidate stands for it.
use Rattle.str0m_values.proofs.AddressText.{ip_printed}
use Rattle.str0m_values.proofs.AddressWords.{decimal_word, ip_word}
use Rattle.str0m_values.proofs.Common.{◌≡◌, ◌≢◌, ℕ, ◌<◌, ◌≤◌, ◌^◌, List, [], ◌∷◌, ◌++◌, get_or, Option, Some, None, refl, sym, inl, arith}
use Rattle.str0m_values.proofs.Common.{subst, append-nil, append_assoc, lit<, codes, decimal, IfSome, digit_value, IsNumeral}
use Rattle.str0m_values.proofs.Common.{decimal_is_IsNumeral, without_leading_plus_none}
use Rattle.str0m_values.specs.Address.{ip_text}
use Rattle.str0m_values.specs.Candidate.{IsCandidateSocket, IsRelatedAddress, IsCandidateText, socket_text, related_text, candidate_text}
use Rattle.str0m_values.specs.Candidate.{IsCandidateSocketInRange}
use Rattle.str0m_values.specs.Candidate.{IsPrintableCandidate}
use Rattle.str0m_values.specs.CandidateKind.{kind_text}
use Rattle.str0m_values.specs.CutsParts.{IsWord, IsNum}
use Rattle.str0m_values.specs.Labels.{IsSameLabel, IsLabelled, IsOptionalLabelled, optional_text}
use Rattle.str0m_values.specs.Protocol.{IsProtocolText, IsTcpTypeText, protocol_text, tcp_type_text}
use Rattle.str0m_values.specs.declared.address.SocketAddr.{SocketAddr}
use Rattle.str0m_values.specs.declared.candidate.Candidate.{Candidate}
use Rattle.str0m_values.specs.declared.candidate_kind.CandidateKind.{CandidateKind}
use Rattle.str0m_values.specs.declared.candidate_label.TheConstants as candidate_label
use Rattle.str0m_values.specs.declared.protocol.Protocol.{Protocol}
use Rattle.str0m_values.specs.declared.protocol.TcpType.{TcpType}

-- ---- numbers and words

candidate_no_plus : (digits : List ℕ) → IsNumeral 10 digits → get_or digits 0 0 ≢ 43
candidate_no_plus [] h = absurd (omega (arith, h.0))
candidate_no_plus (x ∷ digits) h = λ (e : x ≡ 43). let lt : digit_value 43 < 10 = subst (λ y. digit_value y < 10) e h.1.0 in
    absurd (omega arith)

number_text : (limit n : ℕ) → n ≤ limit → limit < 2 ^ 64 → IsNum limit (decimal n) n
number_text limit n fits small = grind (arith, decimal_is_IsNumeral n, without_leading_plus_none (decimal n), candidate_no_plus (decimal n))

protocol_word : (p : Protocol) → IsWord (protocol_text p) × IsProtocolText (protocol_text p) p
protocol_word p = grind arith

tcp_type_word : (t : TcpType) → IsWord (tcp_type_text t) × IsTcpTypeText (tcp_type_text t) t
tcp_type_word t = grind arith

kind_word : (k : CandidateKind) → IsWord (kind_text k)
kind_word k = grind arith

-- ---- parts

number_part : (label : List ℕ) (limit n : ℕ) → n ≤ limit → limit < 2 ^ 64 → IsLabelled label (IsNum limit) (label ++ decimal n) n
number_part label limit n fits small = (decimal n, refl, decimal_word n (omega arith), number_text limit n fits small)

candidate_socket_part : (ip_label port_label : List ℕ) (a : SocketAddr) → IsCandidateSocketInRange a
    → IsCandidateSocket ip_label port_label (socket_text ip_label port_label a) a
candidate_socket_part ip_label port_label a h =
    let ip-is = ip_printed a.ip h.0 in (
      ip_label ++ ip_text a.ip,
      port_label ++ decimal a.port,
      sym (append_assoc ip_label (ip_text a.ip) (port_label ++ decimal a.port)),
      (ip_text a.ip, refl, ip_word (ip_text a.ip) a.ip ip-is, ip-is),
      number_part port_label 65535 a.port (omega (arith, h.1)) (lit< tt),
    )

candidate_related_part : (o : Option SocketAddr) → IfSome o IsCandidateSocketInRange → IsRelatedAddress (related_text o) o
candidate_related_part None h = refl
candidate_related_part (Some a) h = candidate_socket_part candidate_label.RELATED_ADDRESS.now candidate_label.RELATED_PORT.now a h

tcp_type_part : (o : Option TcpType)
    → IsOptionalLabelled candidate_label.TCP_TYPE.now IsTcpTypeText (optional_text candidate_label.TCP_TYPE.now tcp_type_text o) o
tcp_type_part None = refl
tcp_type_part (Some t) = (tcp_type_text t, refl, (tcp_type_word t).0, (tcp_type_word t).1)

ufrag_part : (o : Option (List ℕ)) → IfSome o IsWord
    → IsOptionalLabelled candidate_label.UFRAG.now IsSameLabel (optional_text candidate_label.UFRAG.now (λ t. t) o) o
ufrag_part o h = grind arith

pub printed_candidate : (c : Candidate) → IsPrintableCandidate c → IsCandidateText (candidate_text c) c
printed_candidate c h = record {
  foundation = candidate_label.CANDIDATE.now ++ c.foundation;
  component = codes " " ++ decimal c.component_id;
  protocol = codes " " ++ protocol_text c.proto;
  priority = codes " " ++ decimal c.prio;
  address = socket_text (codes " ") (codes " ") c.addr;
  kind = candidate_label.TYPE.now ++ kind_text c.kind;
  related = related_text c.raddr;
  tcp_type = optional_text candidate_label.TCP_TYPE.now tcp_type_text c.tcptype;
  generation = [];
  names = optional_text candidate_label.UFRAG.now (λ t. t) c.ufrag;
  cost = [];
  joined = simp (append_assoc, append-nil);
  foundation_is = (c.foundation, refl, h.foundation, refl);
  component_is = number_part (codes " ") 65535 c.component_id (omega (arith, h.component_id)) (lit< tt);
  protocol_is = (protocol_text c.proto, refl, (protocol_word c.proto).0, (protocol_word c.proto).1);
  priority_is = number_part (codes " ") 4294967295 c.prio (omega (arith, h.prio)) (lit< tt);
  address_is = candidate_socket_part (codes " ") (codes " ") c.addr h.addr;
  kind_is = (kind_text c.kind, refl, kind_word c.kind, refl);
  related_is = candidate_related_part c.raddr h.raddr;
  tcp_type_is = tcp_type_part c.tcptype;
  generation_is = (None, refl);
  names_are = inl ([], optional_text candidate_label.UFRAG.now (λ t. t) c.ufrag, refl, (None, refl), ufrag_part c.ufrag h.ufrag);
  cost_is = (None, refl);
}
