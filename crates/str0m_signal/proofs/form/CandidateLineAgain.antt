-- A candidate is printed as it was read.
use Rattle.std.proofs.Math.Nat.{pow-le-pow_right}
use Rattle.std.proofs.lemmas.Int.Digits.{digits_value-lt}
use Rattle.str0m_signal.proofs.Common.{rules, ◌≡◌, ◌≢◌, ◌≤◌, ◌<◌, ◌^◌, ℕ, zero, suc, List, [], ◌∷◌, ◌++◌, Option, Some, None, IfSome, refl}
use Rattle.str0m_signal.proofs.Common.{sym, subst, arith, lit<, lit≤, inl, inr, codes, digit_value, decimal, AllByRecursion}
use Rattle.str0m_signal.proofs.Common.{IsCandidateText, candidate_text, PartedAddress, Lacks, IsWord, cuts_some_is, LacksCut-append}
use Rattle.str0m_signal.proofs.Common.{address_lacks_both}
use Rattle.str0m_signal.proofs.Common.{replicate}
use Rattle.str0m_signal.proofs.Common.{AllDigits, IsOctet, IsHexGroup, IsOneAddressGroup, IsAddressEnd, AreAddressGroups}
use Rattle.str0m_signal.proofs.Common.{AreAnyAddressGroups, IsIpText}
use Rattle.str0m_signal.proofs.Common.{IsCandidateSocket}
use Rattle.str0m_signal.proofs.Common.{IsRelatedAddress, AreIceNames, IsCandidateSocketInRange, IsPrintableCandidate, socket_text}
use Rattle.str0m_signal.proofs.Common.{related_text}
use Rattle.str0m_signal.proofs.Common.{extras_text}
use Rattle.str0m_signal.proofs.Common.{octet_pairs, ip_text}
use Rattle.str0m_signal.proofs.form.FmtpPrinted.{fmtp_behind_lacks}
use Rattle.str0m_signal.proofs.line.AttributesPrinted.{HoldsNoEnd, no_end, no_ends, attribute_decimal_lacks, decimal_no_end}
use Rattle.str0m_values.proofs.AddressText.{ip_printed}
use Rattle.str0m_values.proofs.CandidateText.{printed_candidate}
use Rattle.str0m_values.specs.Address.{IsAddressInRange}
use Rattle.str0m_values.specs.CandidateKind.{kind_text}
use Rattle.str0m_values.specs.Labels.{IsSameLabel, IsLabelled, optional_text}
use Rattle.str0m_values.specs.Protocol.{protocol_text, tcp_type_text}
use Rattle.str0m_values.specs.declared.address.IpAddr.{IpAddr}
use Rattle.str0m_values.specs.declared.address.IpAddr.TheVariants.{V4, V6}
use Rattle.str0m_values.specs.declared.address.SocketAddr.{SocketAddr}
use Rattle.str0m_values.specs.declared.candidate.Candidate.{Candidate}
use Rattle.str0m_values.specs.declared.candidate_kind.CandidateKind.{CandidateKind}
use Rattle.str0m_values.specs.declared.candidate_label.TheConstants as candidate_label
use Rattle.str0m_values.specs.declared.protocol.Protocol.{Protocol}
use Rattle.str0m_values.specs.declared.protocol.TcpType.{TcpType}

-- ---- addresses keep to their ranges

small_group : (text : List ℕ) (n : ℕ) → IsHexGroup text n → n < 2 ^ 16
small_group text n h = grind (arith, digits_value-lt, pow-le-pow_right)

abbrev AreCandidateNumbersSmall : ℕ → List ℕ → Type 0
AreCandidateNumbersSmall limit ns = AllByRecursion (λ n. n < limit) ns

candidate_all_small : (limit : ℕ) (xs ys : List ℕ) → AreCandidateNumbersSmall limit xs → AreCandidateNumbersSmall limit ys
    → AreCandidateNumbersSmall limit (xs ++ ys)
candidate_all_small limit [] ys h k = k
candidate_all_small limit (x ∷ xs) ys h k = (h.0, candidate_all_small limit xs ys h.1 k)

candidate_octets_small : (text octets : List ℕ) → PartedAddress 46 IsOctet text octets → AreCandidateNumbersSmall (2 ^ 8) octets
candidate_octets_small text [] h = absurd h
candidate_octets_small text (n ∷ []) h = (h.1, tt)
candidate_octets_small text (n ∷ (m ∷ ms)) h = (h.3.1, candidate_octets_small h.1 (m ∷ ms) h.4)

candidate_pairs_small : (octets : List ℕ) → AreCandidateNumbersSmall (2 ^ 8) octets → AreCandidateNumbersSmall (2 ^ 16) (octet_pairs octets)
candidate_pairs_small [] h = tt
candidate_pairs_small (a ∷ []) h = tt
candidate_pairs_small (a ∷ (b ∷ octets)) h = (omega (arith, h.0, h.1.0), candidate_pairs_small octets h.1.1)

candidate_zeros_small : (n : ℕ) → AreCandidateNumbersSmall (2 ^ 16) (replicate n 0)
candidate_zeros_small zero = tt
candidate_zeros_small (suc n) = (lit< tt, candidate_zeros_small n)

candidate_one_group_small : (text groups : List ℕ) → IsOneAddressGroup text groups → AreCandidateNumbersSmall (2 ^ 16) groups
candidate_one_group_small text groups (n, group, e) = subst (AreCandidateNumbersSmall (2 ^ 16)) (sym e) (small_group text n group, tt)

end_small : (text groups : List ℕ) → IsAddressEnd text groups → AreCandidateNumbersSmall (2 ^ 16) groups
end_small text groups (inl one) = candidate_one_group_small text groups one
end_small text groups (inr (octets, is, e)) = subst (AreCandidateNumbersSmall (2 ^ 16)) (sym e)
    (candidate_pairs_small octets (candidate_octets_small text octets is.0))

module _ (Last : List ℕ → List ℕ → Type 0) (last_small : (text groups : List ℕ) → Last text groups
    → AreCandidateNumbersSmall (2 ^ 16) groups) where
  groups_small : (text groups : List ℕ) → AreAddressGroups Last text groups → AreCandidateNumbersSmall (2 ^ 16) groups
  groups_small text [] h = absurd h
  groups_small text (n ∷ groups) (inl h) = last_small text (n ∷ groups) h
  groups_small text (n ∷ groups) (inr h) = (small_group h.0 n h.3, groups_small h.1 groups h.4)

  candidate_any_groups_small : (text groups : List ℕ) → AreAnyAddressGroups Last text groups → AreCandidateNumbersSmall (2 ^ 16) groups
  candidate_any_groups_small text groups o = grind (arith, groups_small)

candidate_ip_in_range : (text : List ℕ) (a : IpAddr) → IsIpText text a → IsAddressInRange a
candidate_ip_in_range text (V4 octets) h = (h.1, candidate_octets_small text octets h.0)
candidate_ip_in_range text (V6 groups) (inl all, eight) = (eight, groups_small IsAddressEnd end_small text groups all)
candidate_ip_in_range text (V6 groups) (inr short, eight) = (
  eight,
  subst (AreCandidateNumbersSmall (2 ^ 16)) (sym short.groups_are)
      (candidate_all_small (2 ^ 16) short.front _
      (candidate_any_groups_small IsOneAddressGroup candidate_one_group_small short.front_text short.front short.front_is)
      (candidate_all_small (2 ^ 16) (replicate short.zeros 0) short.back (candidate_zeros_small short.zeros)
      (candidate_any_groups_small IsAddressEnd end_small short.back_text short.back short.back_is))),
)

-- ---- addresses hold digits, dots and colons

module _ (c : ℕ) (far : 16 ≤ digit_value c) (no_dot : 46 ≢ c) (no_colon : 58 ≢ c) where
  candidate_hex_lacks : (digits : List ℕ) → AllDigits 16 digits → Lacks c digits
  candidate_hex_lacks [] h = tt
  candidate_hex_lacks (x ∷ xs) h = grind (arith, candidate_hex_lacks xs h.1)

  candidate_octets_lack : (text octets : List ℕ) → PartedAddress 46 IsOctet text octets → Lacks c text
  candidate_octets_lack text [] h = absurd h
  candidate_octets_lack text (n ∷ []) h = subst (Lacks c) (sym h.0) (attribute_decimal_lacks c n (omega arith) (omega (arith, h.1)))
  candidate_octets_lack text (n ∷ (m ∷ ms)) h =
      subst (Lacks c) (sym h.2)
      (address_lacks_both c h.0 (46 ∷ h.1) (subst (Lacks c) (sym h.3.0) (attribute_decimal_lacks c n (omega arith) (omega (arith, h.3.1))))
      (no_dot, candidate_octets_lack h.1 (m ∷ ms) h.4))

  candidate_one_group_lacks : (text groups : List ℕ) → IsOneAddressGroup text groups → Lacks c text
  candidate_one_group_lacks text groups (n, group, e) = candidate_hex_lacks text group.numeral.1

  end_lacks : (text groups : List ℕ) → IsAddressEnd text groups → Lacks c text
  end_lacks text groups (inl one) = candidate_one_group_lacks text groups one
  end_lacks text groups (inr (octets, is, e)) = candidate_octets_lack text octets is.0

  module _ (Last : List ℕ → List ℕ → Type 0) (last_lacks : (text groups : List ℕ) → Last text groups → Lacks c text) where
    groups_lack : (text groups : List ℕ) → AreAddressGroups Last text groups → Lacks c text
    groups_lack text [] h = absurd h
    groups_lack text (n ∷ groups) (inl h) = last_lacks text (n ∷ groups) h
    groups_lack text (n ∷ groups) (inr h) =
        subst (Lacks c) (sym h.2) (address_lacks_both c h.0 (58 ∷ h.1) (candidate_hex_lacks h.0 h.3.numeral.1)
        (no_colon, groups_lack h.1 groups h.4))

    candidate_any_address_groups_lack : (text groups : List ℕ) → AreAnyAddressGroups Last text groups → Lacks c text
    candidate_any_address_groups_lack text groups (inl none) = subst (Lacks c) (sym none.0) tt
    candidate_any_address_groups_lack text groups (inr some) = groups_lack text groups some

  candidate_ip_lacks : (text : List ℕ) (a : IpAddr) → IsIpText text a → Lacks c text
  candidate_ip_lacks text (V4 octets) h = candidate_octets_lack text octets h.0
  candidate_ip_lacks text (V6 groups) (inl all, eight) = groups_lack IsAddressEnd end_lacks text groups all
  candidate_ip_lacks text (V6 groups) (inr short, eight) =
      subst (Lacks c) (sym short.joined)
      (address_lacks_both c short.front_text _
      (candidate_any_address_groups_lack IsOneAddressGroup candidate_one_group_lacks short.front_text short.front short.front_is)
      (no_colon, (no_colon, candidate_any_address_groups_lack IsAddressEnd end_lacks short.back_text short.back short.back_is)))

ip_no_end : (a : IpAddr) → IsAddressInRange a → HoldsNoEnd (ip_text a)
ip_no_end a h =
    let is = ip_printed a h in (
      candidate_ip_lacks 10 (lit≤ tt) (λ e. absurd (omega (arith, e))) (λ e. absurd (omega (arith, e))) (ip_text a) a is,
      candidate_ip_lacks 13 (lit≤ tt) (λ e. absurd (omega (arith, e))) (λ e. absurd (omega (arith, e))) (ip_text a) a is,
    )

-- ---- candidates

candidate_socket_in_range : (ip_label port_label text : List ℕ) (a : SocketAddr) → IsCandidateSocket ip_label port_label text a
    → IsCandidateSocketInRange a
candidate_socket_in_range ip_label port_label text a (ip, port, e, ip_is, port_is) = grind (arith, candidate_ip_in_range)

candidate_related_in_range : (o : Option SocketAddr) (text : List ℕ) → IsRelatedAddress text o → IfSome o IsCandidateSocketInRange
candidate_related_in_range None text h = tt
candidate_related_in_range (Some a) text h = candidate_socket_in_range candidate_label.RELATED_ADDRESS.now candidate_label.RELATED_PORT.now
    text a h

candidate_labelled_same_word : (label part x : List ℕ) → IsLabelled label IsSameLabel part x → IsWord x
candidate_labelled_same_word label part x (word, e, is, same) = subst IsWord (sym same) is

candidate_ice_name_word : (o : Option (List ℕ)) (text : List ℕ) → AreIceNames text o → IfSome o IsWord
candidate_ice_name_word o text h = grind arith

candidate_printable : (text : List ℕ) (c : Candidate) → IsCandidateText text c → IsPrintableCandidate c
candidate_printable text c h = search (
  rules,
  candidate_labelled_same_word,
  candidate_socket_in_range,
  candidate_related_in_range,
  candidate_ice_name_word,
)

-- ---- line ends

protocol_no_end : (p : Protocol) → HoldsNoEnd (protocol_text p)
protocol_no_end p = grind arith

kind_no_end : (k : CandidateKind) → HoldsNoEnd (kind_text k)
kind_no_end k = grind arith

tcp_type_no_end : (o : Option TcpType) → HoldsNoEnd (optional_text candidate_label.TCP_TYPE.now tcp_type_text o)
tcp_type_no_end o = grind arith

socket_no_end : (ip_label port_label : List ℕ) (a : SocketAddr) → HoldsNoEnd ip_label → HoldsNoEnd port_label → IsCandidateSocketInRange a
    → HoldsNoEnd (socket_text ip_label port_label a)
socket_no_end ip_label port_label a h k range = grind (arith, no_ends, ip_no_end, decimal_no_end)

related_no_end : (o : Option SocketAddr) → IfSome o IsCandidateSocketInRange → HoldsNoEnd (related_text o)
related_no_end None h = (tt, tt)
related_no_end (Some a) h = search (rules, socket_no_end, no_end)

candidate_labelled_word_lacks : (c : ℕ) (label part x : List ℕ) → IsLabelled label IsSameLabel part x → Lacks c part → Lacks c x
candidate_labelled_word_lacks c label part x (word, e, is, same) none = grind (arith, fmtp_behind_lacks)

candidate_fragment_lacks : (c : ℕ) (o : Option (List ℕ)) (text : List ℕ) → AreIceNames text o → Lacks c text
    → Lacks c candidate_label.UFRAG.now
    → Lacks c (optional_text candidate_label.UFRAG.now (λ t. t) o)
candidate_fragment_lacks c None text h none label = tt
candidate_fragment_lacks c (Some x) text (inl (network, name, e, left_out, is)) none label =
    address_lacks_both c candidate_label.UFRAG.now x label
    (candidate_labelled_word_lacks c candidate_label.UFRAG.now name x is (fmtp_behind_lacks c network name (subst (Lacks c) e none)))
candidate_fragment_lacks c (Some x) text (inr (name, network, word, fragment, e, is, network_is, same)) none label =
    let own : x ≡ fragment = cuts_some_is x fragment same in
    address_lacks_both c candidate_label.UFRAG.now x label
    (subst (Lacks c) (sym own) (candidate_labelled_word_lacks c candidate_label.UFRAG.now name fragment is
    (LacksCut-append c name network (subst (Lacks c) e none))))

-- the fragment and the foundation hold what the text holds
module _ (c : ℕ) (text : List ℕ) (candidate : Candidate) (h : IsCandidateText text candidate) (none : Lacks c text) where
  foundation_lacks : Lacks c candidate.foundation
  foundation_lacks =
      candidate_labelled_word_lacks c candidate_label.CANDIDATE.now h.foundation candidate.foundation h.foundation_is
      (LacksCut-append c h.foundation _ (subst (Lacks c) h.joined none))

  candidate_fragments_lack : Lacks c candidate_label.UFRAG.now → Lacks c (optional_text candidate_label.UFRAG.now (λ t. t) candidate.ufrag)
  candidate_fragments_lack label =
      let component = fmtp_behind_lacks c h.foundation _ (subst (Lacks c) h.joined none) in
      let protocol = fmtp_behind_lacks c h.component _ component in
      let priority = fmtp_behind_lacks c h.protocol _ protocol in
      let address = fmtp_behind_lacks c h.priority _ priority in
      let kind = fmtp_behind_lacks c h.address _ address in
      let related = fmtp_behind_lacks c h.kind _ kind in
      let tcp = fmtp_behind_lacks c h.related _ related in
      let generation = fmtp_behind_lacks c h.tcp_type _ tcp in
      let names = fmtp_behind_lacks c h.generation _ generation in
      candidate_fragment_lacks c candidate.ufrag h.names h.names_are (LacksCut-append c h.names h.cost names) label

-- a candidate that a text was read as prints a text that stands for it
pub candidate_again : (text : List ℕ) (c : Candidate) → HoldsNoEnd text → IsCandidateText text c
    → IsCandidateText (candidate_text c) c × HoldsNoEnd (candidate_text c)
candidate_again text c quiet h =
    let is = candidate_printable text c h in
    let space = no_end (codes " ") refl refl in
    let label = no_end candidate_label.UFRAG.now refl refl in (
      printed_candidate c is,
      no_ends candidate_label.CANDIDATE.now _ (no_end candidate_label.CANDIDATE.now refl refl)
          (no_ends c.foundation _ (foundation_lacks 10 text c h quiet.0, foundation_lacks 13 text c h quiet.1)
          (no_ends (codes " ") _ space
          (no_ends (decimal c.component_id) _ (decimal_no_end c.component_id (omega (arith, is.component_id)))
          (no_ends (codes " ") _ space
          (no_ends (protocol_text c.proto) _ (protocol_no_end c.proto)
          (no_ends (codes " ") _ space
          (no_ends (decimal c.prio) _ (decimal_no_end c.prio (omega (arith, is.prio)))
          (no_ends (socket_text (codes " ") (codes " ") c.addr) _ (socket_no_end (codes " ") (codes " ") c.addr space space is.addr)
          (no_ends candidate_label.TYPE.now _ (no_end candidate_label.TYPE.now refl refl)
          (no_ends (kind_text c.kind) (extras_text c) (kind_no_end c.kind)
          (no_ends (related_text c.raddr) _ (related_no_end c.raddr is.raddr)
          (no_ends (optional_text candidate_label.TCP_TYPE.now tcp_type_text c.tcptype) _ (tcp_type_no_end c.tcptype)
          (candidate_fragments_lack 10 text c h quiet.0 label.0, candidate_fragments_lack 13 text c h quiet.1 label.1))))))))))))),
    )
