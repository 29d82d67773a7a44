-- The parts of a candidate's text that have a form of their own are read both ways.
use Rattle.str0m_values.proofs.AddressBothWays.{ip_both}
use Rattle.str0m_values.proofs.CandidateWords.{tcp_type_both}
use Rattle.str0m_values.proofs.Common.{rules, arith, ◌≡◌, ℕ, true, cond, List, [], ◌++◌, Option, Some, None, refl, sym, ap, ◌∙◌, inl, inr}
use Rattle.str0m_values.proofs.Common.{append_assoc, is_some, is_none, ◌||◌, if◌then◌else◌}
use Rattle.str0m_values.proofs.CutsBothWays.{Reads, cuts_some_is}
use Rattle.str0m_values.proofs.CutsNumLaws.{num_found, num_reads}
use Rattle.str0m_values.proofs.LabelLaws.{label_option_bound, label_bind_is, IsWordEnd, EndsWithoutLabel, LabelFront, labelled_part_front}
use Rattle.str0m_values.proofs.LabelLaws.{optional_label_front}
use Rattle.str0m_values.proofs.LabelLaws.{label_value_sound}
use Rattle.str0m_values.specs.AddressReading.{ip_read}
use Rattle.str0m_values.specs.Candidate.{IsCandidateSocket, IsRelatedAddress, AreIceNames}
use Rattle.str0m_values.specs.CandidateReading.{tcp_type_read, candidate_socket_read, candidate_related_read, tcp_part_read, ice_names_read}
use Rattle.str0m_values.specs.Cuts.{◌>>=◌, strip, num}
use Rattle.str0m_values.specs.CutsParts.{IsNum}
use Rattle.str0m_values.specs.LabelReading.{labelled_part_read, optional_label_read, word_value_read}
use Rattle.str0m_values.specs.Labels.{IsSameLabel, IsOptionalLabelled}
use Rattle.str0m_values.specs.Protocol.{IsTcpTypeText}
use Rattle.str0m_values.specs.declared.address.SocketAddr.{SocketAddr}
use Rattle.str0m_values.specs.declared.candidate_label.TheConstants as candidate_label
use Rattle.str0m_values.specs.declared.protocol.TcpType.{TcpType}

pub candidate_num_both : (limit : ℕ) → Reads (IsNum limit) (num limit)
candidate_num_both limit = record { sound = num_found limit; complete = num_reads limit }

-- ---- an address and a port

candidate_socket_sound : (ip_label port_label text : List ℕ) (x : SocketAddr × List ℕ)
    → candidate_socket_read ip_label port_label text ≡ Some x
    → (part : List ℕ) × (text ≡ part ++ x.1) × IsCandidateSocket ip_label port_label part x.0
candidate_socket_sound ip_label port_label text x e =
    label_option_bound (labelled_part_read ip_label ip_read text) _ _ e λ ip e₁ k.
    label_option_bound (labelled_part_read port_label (num 65535) ip.1) _ _ k λ port e₂ same.
    let one = (labelled_part_front ip_label ip_both).sound text ip e₁ in
    let two = (labelled_part_front port_label (candidate_num_both 65535)).sound ip.1 port e₂ in
    let whole = one.1 ∙ ap (λ (t : List ℕ). one.0 ++ t) two.1 ∙ sym (append_assoc one.0 two.0 port.1) in
    rw (← cuts_some_is (record { ip = ip.0; port = port.0 }, port.1) x same) (one.0 ++ two.0, whole, (one.0, two.0, refl, one.2, two.2))

candidate_socket_complete : (ip_label port_label : List ℕ) → ((more : List ℕ) → IsWordEnd (port_label ++ more))
    → (part : List ℕ) (x : SocketAddr) (rest : List ℕ) → IsCandidateSocket ip_label port_label part x → IsWordEnd rest
    → candidate_socket_read ip_label port_label (part ++ rest) ≡ Some (x, rest)
candidate_socket_complete ip_label port_label spaced part x rest h ends =
    let port-is : h.1 ++ rest ≡ port_label ++ (h.4.0 ++ rest) = ap (λ (t : List ℕ). t ++ rest) h.4.1 ∙ append_assoc port_label h.4.0 rest in
    let between : IsWordEnd (h.1 ++ rest) = rw port-is (spaced (h.4.0 ++ rest)) in
    let whole : part ++ rest ≡ h.0 ++ (h.1 ++ rest) = ap (λ (t : List ℕ). t ++ rest) h.2 ∙ append_assoc h.0 h.1 rest in
    ap (candidate_socket_read ip_label port_label) whole
    ∙ label_bind_is _ _ _ _ ((labelled_part_front ip_label ip_both).complete h.0 x.ip (h.1 ++ rest) h.3 between)
    (label_bind_is _ _ _ _ ((labelled_part_front port_label (candidate_num_both 65535)).complete h.1 x.port rest h.4 ends) refl)

pub candidate_socket_front : (ip_label port_label : List ℕ) → ((more : List ℕ) → IsWordEnd (port_label ++ more))
    → LabelFront (IsCandidateSocket ip_label port_label) IsWordEnd (candidate_socket_read ip_label port_label)
candidate_socket_front ip_label port_label spaced = search (rules, candidate_socket_sound, candidate_socket_complete)

candidate_related_socket : LabelFront (IsCandidateSocket candidate_label.RELATED_ADDRESS.now candidate_label.RELATED_PORT.now) IsWordEnd
    (candidate_socket_read candidate_label.RELATED_ADDRESS.now candidate_label.RELATED_PORT.now)
candidate_related_socket = candidate_socket_front candidate_label.RELATED_ADDRESS.now candidate_label.RELATED_PORT.now (λ more. refl)

candidate_related_sound : (text : List ℕ) (x : Option SocketAddr × List ℕ) (o : Option (List ℕ))
    → strip candidate_label.RELATED_ADDRESS.now text ≡ o
    → cond (is_some o) (candidate_socket_read candidate_label.RELATED_ADDRESS.now candidate_label.RELATED_PORT.now text
    >>= λ addr. Some (Some addr.0, addr.1)) (Some (None, text)) ≡ Some x
    → (part : List ℕ) × (text ≡ part ++ x.1) × IsRelatedAddress part x.0
candidate_related_sound text x o is e = search (rules, cuts_some_is, label_option_bound, candidate_related_socket)

candidate_related_complete : (part : List ℕ) (x : Option SocketAddr) (rest : List ℕ) → IsRelatedAddress part x
    → EndsWithoutLabel candidate_label.RELATED_ADDRESS.now rest → candidate_related_read (part ++ rest) ≡ Some (x, rest)
candidate_related_complete part None rest h ends = rw (h, ends.1) refl
candidate_related_complete part (Some addr) rest h ends =
    let there : is_some (strip candidate_label.RELATED_ADDRESS.now (part ++ rest)) ≡ true = rw (h.2, h.3.1) refl in
    rw there (label_bind_is _ _ _ _ (candidate_related_socket.complete part addr rest h ends.0) refl)

pub candidate_related_front : LabelFront IsRelatedAddress (EndsWithoutLabel candidate_label.RELATED_ADDRESS.now) candidate_related_read
candidate_related_front = search (rules, candidate_related_sound, candidate_related_complete)

-- ---- the TCP type

tcp_sound : (text : List ℕ) (x : Option TcpType × List ℕ) → tcp_part_read text ≡ Some x
    → (part : List ℕ) × (text ≡ part ++ x.1) × IsOptionalLabelled candidate_label.TCP_TYPE.now IsTcpTypeText part x.0
tcp_sound text x e =
    label_option_bound (optional_label_read candidate_label.TCP_TYPE.now text) _ _ e λ word e₁ k.
    label_option_bound (word_value_read tcp_type_read word.0) _ _ k λ tcp_type e₂ same.
    let found = (optional_label_front candidate_label.TCP_TYPE.now).sound text word e₁ in
    rw (← cuts_some_is (tcp_type, word.1) x same) (
      found.0,
      found.1,
      label_value_sound tcp_type_both candidate_label.TCP_TYPE.now found.0 word.0 tcp_type found.2 e₂,
    )

tcp_complete : (part : List ℕ) (x : Option TcpType) (rest : List ℕ) → IsOptionalLabelled candidate_label.TCP_TYPE.now IsTcpTypeText part x
    → EndsWithoutLabel candidate_label.TCP_TYPE.now rest → tcp_part_read (part ++ rest) ≡ Some (x, rest)
tcp_complete part None rest h ends = label_bind_is _ _ _ _
    ((optional_label_front candidate_label.TCP_TYPE.now).complete part None rest h ends) refl
tcp_complete part (Some t) rest h ends =
    label_bind_is _ _ _ _ ((optional_label_front candidate_label.TCP_TYPE.now).complete part (Some h.0) rest (h.0, h.1, h.2, refl) ends)
    (label_bind_is _ _ _ _ (label_bind_is _ _ _ _ (tcp_type_both.complete h.0 t h.3) refl) refl)

pub tcp_front : LabelFront (IsOptionalLabelled candidate_label.TCP_TYPE.now IsTcpTypeText) (EndsWithoutLabel candidate_label.TCP_TYPE.now)
    tcp_part_read
tcp_front = record { sound = tcp_sound; complete = tcp_complete }

-- ---- a network's id and a name fragment

abbrev candidate_network_id_label : List ℕ
candidate_network_id_label = candidate_label.NETWORK_ID.now

abbrev ufrag : List ℕ
ufrag = candidate_label.UFRAG.now

-- neither of them follows
abbrev pub EndsNames : List ℕ → Type 0
EndsNames rest = IsWordEnd rest × (strip candidate_network_id_label rest ≡ None) × (strip ufrag rest ≡ None)

-- what is read after the first two
abbrev candidate_behind_read : Option (List ℕ) → Option (List ℕ) × List ℕ → Option (Option (List ℕ) × List ℕ)
candidate_behind_read first named =
    if is_some first || is_none named.0 then Some named
    else (optional_label_read candidate_network_id_label named.1 >>= λ last. Some (named.0, last.1))

ice_names_found : (text : List ℕ) (x : Option (List ℕ) × List ℕ) (first : Option (List ℕ)) (named : Option (List ℕ) × List ℕ) (p q : List ℕ)
    → text ≡ p ++ (q ++ named.1) → IsOptionalLabelled candidate_network_id_label IsSameLabel p first
    → IsOptionalLabelled ufrag IsSameLabel q named.0
    → candidate_behind_read first named ≡ Some x
    → (part : List ℕ) × (text ≡ part ++ x.1) × AreIceNames part x.0
ice_names_found text x (Some word) named p q joined p-is q-is e =
    rw (← cuts_some_is named x e) (p ++ q, joined ∙ sym (append_assoc p q named.1), inl (p, q, refl, (Some word, p-is), q-is))
ice_names_found text x None (None, rest) p q joined p-is q-is e = grind arith
ice_names_found text x None (Some fragment, rest) p q joined p-is q-is e =
    label_option_bound (optional_label_read candidate_network_id_label rest) _ _ e λ last e₁ same.
    let found = (optional_label_front candidate_network_id_label).sound rest last e₁ in
    rw (← cuts_some_is (Some fragment, last.1) x same) (last_found last.0 last.1 found.0 found.1 found.2)
  where
    last_found : (word : Option (List ℕ)) (more r : List ℕ) → rest ≡ r ++ more
        → IsOptionalLabelled candidate_network_id_label IsSameLabel r word
        → (part : List ℕ) × (text ≡ part ++ more) × AreIceNames part (Some fragment)
    last_found None more r rest-is r-is =
        let whole : text ≡ (p ++ q) ++ more = joined ∙ ap (λ (t : List ℕ). p ++ (q ++ t)) (rest-is ∙ ap (λ (t : List ℕ). t ++ more) r-is)
        ∙ sym (append_assoc p q more) in
        (p ++ q, whole, inl (p, q, refl, (None, p-is), q-is))
    last_found (Some word) more r rest-is r-is =
        let whole : text ≡ (q ++ r) ++ more = joined ∙ ap (λ (t : List ℕ). t ++ (q ++ rest)) p-is ∙ ap (λ (t : List ℕ). q ++ t) rest-is
        ∙ sym (append_assoc q r more) in
        (q ++ r, whole, inr (q, r, word, fragment, refl, q-is, r-is, refl))

names_sound : (text : List ℕ) (x : Option (List ℕ) × List ℕ) → ice_names_read text ≡ Some x
    → (part : List ℕ) × (text ≡ part ++ x.1) × AreIceNames part x.0
names_sound text x e =
    label_option_bound (optional_label_read candidate_network_id_label text) _ _ e λ first e₁ k.
    label_option_bound (optional_label_read ufrag first.1) _ _ k λ named e₂ last.
    let one = (optional_label_front candidate_network_id_label).sound text first e₁ in
    let two = (optional_label_front ufrag).sound first.1 named e₂ in
    ice_names_found text x first.0 named one.0 two.0 (one.1 ∙ ap (λ (t : List ℕ). one.0 ++ t) two.1) one.2 two.2 last

-- a name fragment or what follows it doesn't begin as a network's id
name_ends : (part : List ℕ) (x : Option (List ℕ)) (rest : List ℕ) → IsOptionalLabelled ufrag IsSameLabel part x → EndsNames rest
    → EndsWithoutLabel candidate_network_id_label (part ++ rest)
name_ends part x rest h ends = grind arith

candidate_no_ice_names_behind : (first x : Option (List ℕ)) (rest : List ℕ) → EndsNames rest
    → candidate_behind_read first (x, rest) ≡ Some (x, rest)
candidate_no_ice_names_behind first x rest ends = grind arith

names_complete : (part : List ℕ) (x : Option (List ℕ)) (rest : List ℕ) → AreIceNames part x → EndsNames rest
    → ice_names_read (part ++ rest) ≡ Some (x, rest)
names_complete part x rest (inl h) ends =
    grind (
      arith,
      append_assoc h.0 h.1 rest,
      label_bind_is,
      optional_label_front ufrag,
      optional_label_front candidate_network_id_label,
      name_ends h.1 x rest h.4 ends,
      candidate_no_ice_names_behind h.3.0 x rest ends,
    )
names_complete part x rest (inr h) ends =
    let whole : part ++ rest ≡ h.0 ++ (h.1 ++ rest) = ap (λ (t : List ℕ). t ++ rest) h.4 ∙ append_assoc h.0 h.1 rest in
    let first : EndsWithoutLabel candidate_network_id_label (h.0 ++ (h.1 ++ rest)) = rw h.5.1 (refl, refl) in
    let second : EndsWithoutLabel ufrag (h.1 ++ rest) = rw h.6.1 (refl, refl) in
    ap ice_names_read whole
    ∙ label_bind_is _ _ _ _ ((optional_label_front candidate_network_id_label).complete [] None (h.0 ++ (h.1 ++ rest)) refl first)
    (label_bind_is _ _ _ _ ((optional_label_front ufrag).complete h.0 (Some h.3) (h.1 ++ rest) h.5 second)
    (label_bind_is _ _ _ _ ((optional_label_front candidate_network_id_label).complete h.1 (Some h.2) rest h.6 (ends.0, ends.1))
    (ap (λ (u : Option (List ℕ)). Some (u, rest)) (sym h.7))))

pub names_front : LabelFront AreIceNames EndsNames ice_names_read
names_front = record { sound = names_sound; complete = names_complete }
