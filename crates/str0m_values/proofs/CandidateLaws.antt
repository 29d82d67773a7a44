-- A text is read as a candidate exactly where it stands for it.
use Rattle.str0m_values.proofs.CandidateParts.{candidate_num_both, candidate_socket_front, candidate_related_front, tcp_front, EndsNames}
use Rattle.str0m_values.proofs.CandidateParts.{names_front}
use Rattle.str0m_values.proofs.CandidateWords.{candidate_protocol_both, kind_both}
use Rattle.str0m_values.proofs.Common.{rules, ◌≡◌, ℕ, cond, List, [], ◌∷◌, ◌++◌, Option, Some, None, refl, ap, ◌∙◌, inl, inr, append_assoc}
use Rattle.str0m_values.proofs.Common.{append-nil, subst, arith, codes}
use Rattle.str0m_values.proofs.CutsBothWays.{Reads, cuts_some_is}
use Rattle.str0m_values.proofs.CutsNumLaws.{num_rest_true}
use Rattle.str0m_values.proofs.LabelLaws.{label_option_bound, label_bind_is, IsWordEnd, EndsWithoutLabel, StartsWithLabel, label_starts_all}
use Rattle.str0m_values.proofs.LabelLaws.{label_starts_optional}
use Rattle.str0m_values.proofs.LabelLaws.{LabelFront}
use Rattle.str0m_values.proofs.LabelLaws.{labelled_front, labelled_part_front, optional_label_front}
use Rattle.str0m_values.specs.Candidate.{IsCandidateSocket, IsRelatedAddress, AreIceNames, IsCandidateText}
use Rattle.str0m_values.specs.CandidateKind.{IsKindText}
use Rattle.str0m_values.specs.CandidateReading.{CandidateLead, CandidateExtras, candidate_protocol_read, candidate_kind_read}
use Rattle.str0m_values.specs.CandidateReading.{candidate_socket_read}
use Rattle.str0m_values.specs.CandidateReading.{candidate_related_read, tcp_part_read}
use Rattle.str0m_values.specs.CandidateReading.{ice_names_read, candidate_lead_read, candidate_last_read, candidate_extras_read}
use Rattle.str0m_values.specs.CandidateReading.{candidate_of, candidate_read}
use Rattle.str0m_values.specs.Cuts.{num, is_rest}
use Rattle.str0m_values.specs.CutsParts.{IsNum}
use Rattle.str0m_values.specs.LabelReading.{labelled_read, labelled_part_read, optional_label_read}
use Rattle.str0m_values.specs.Labels.{IsSameLabel, IsLabelled, IsOptionalLabelled, IsOptionalLabelUnkept}
use Rattle.str0m_values.specs.Protocol.{IsProtocolText, IsTcpTypeText}
use Rattle.str0m_values.specs.declared.address.SocketAddr.{SocketAddr}
use Rattle.str0m_values.specs.declared.candidate.Candidate.{Candidate}
use Rattle.str0m_values.specs.declared.candidate_label.TheConstants as candidate_label

-- ---- what may follow a part

-- the labels of the parts after the kind, from each of them on
abbrev candidate_from_cost : List (List ℕ)
candidate_from_cost = candidate_label.NETWORK_COST.now ∷ []

abbrev from_names : List (List ℕ)
from_names = candidate_label.NETWORK_ID.now ∷ candidate_label.UFRAG.now ∷ candidate_from_cost

abbrev candidate_from_generation : List (List ℕ)
candidate_from_generation = candidate_label.GENERATION.now ∷ from_names

abbrev from_tcp_type : List (List ℕ)
from_tcp_type = candidate_label.TCP_TYPE.now ∷ candidate_from_generation

starts_names : (part rest : List ℕ) (x : Option (List ℕ)) → AreIceNames part x → StartsWithLabel candidate_from_cost rest
    → StartsWithLabel from_names (part ++ rest)
starts_names part rest x (inl h) s =
    grind (
      arith,
      append_assoc h.0 h.1 rest,
      label_starts_optional IsSameLabel candidate_label.UFRAG.now candidate_from_cost h.1 rest x h.4 s,
      label_starts_optional IsSameLabel candidate_label.NETWORK_ID.now (candidate_label.UFRAG.now ∷ candidate_from_cost) h.0 (h.1 ++ rest)
          h.3.0 h.3.1
          (label_starts_optional IsSameLabel candidate_label.UFRAG.now candidate_from_cost h.1 rest x h.4 s),
    )
starts_names part rest x (inr h) s = grind arith

candidate_ends_labelled : {B : Type 0} (F : List ℕ → B → Type 0) (label part rest : List ℕ) (x : B)
    → ((more : List ℕ) → IsWordEnd (label ++ more))
    → IsLabelled label F part x → IsWordEnd (part ++ rest)
candidate_ends_labelled F label part rest x spaced h = rw (h.1, append_assoc label h.0 rest) (spaced (h.0 ++ rest))

candidate_ends_socket : (part rest : List ℕ) (x : SocketAddr) → IsCandidateSocket (codes " ") (codes " ") part x → IsWordEnd (part ++ rest)
candidate_ends_socket part rest x h = grind arith

-- ---- the parts in front of the address

record IsCandidateLead (text : List ℕ) (x : CandidateLead) (rest : List ℕ) : Type 0 where
  foundation : List ℕ
  component : List ℕ
  protocol : List ℕ
  priority : List ℕ
  joined : text ≡ foundation ++ (component ++ (protocol ++ (priority ++ rest)))
  foundation_is : IsLabelled candidate_label.CANDIDATE.now IsSameLabel foundation x.foundation
  component_is : IsLabelled (codes " ") (IsNum 65535) component x.component_id
  protocol_is : IsLabelled (codes " ") IsProtocolText protocol x.proto
  priority_is : IsLabelled (codes " ") (IsNum 4294967295) priority x.prio

candidate_lead_sound : (text : List ℕ) (x : CandidateLead × List ℕ) → candidate_lead_read text ≡ Some x → IsCandidateLead text x.0 x.1
candidate_lead_sound text x e =
    label_option_bound (labelled_read candidate_label.CANDIDATE.now text) _ _ e λ foundation e₁ k₁.
    label_option_bound (labelled_part_read (codes " ") (num 65535) foundation.1) _ _ k₁ λ component e₂ k₂.
    label_option_bound (labelled_part_read (codes " ") candidate_protocol_read component.1) _ _ k₂ λ protocol e₃ k₃.
    label_option_bound (labelled_part_read (codes " ") (num 4294967295) protocol.1) _ _ k₃ λ priority e₄ same.
    let p₁ = (labelled_front candidate_label.CANDIDATE.now).sound text foundation e₁ in
    let p₂ = (labelled_part_front (codes " ") (candidate_num_both 65535)).sound foundation.1 component e₂ in
    let p₃ = (labelled_part_front (codes " ") candidate_protocol_both).sound component.1 protocol e₃ in
    let p₄ = (labelled_part_front (codes " ") (candidate_num_both 4294967295)).sound protocol.1 priority e₄ in
    let made : CandidateLead = record { foundation = foundation.0; component_id = component.0; proto = protocol.0; prio = priority.0 } in
    rw (← cuts_some_is (made, priority.1) x same) (record {
      foundation = p₁.0;
      component = p₂.0;
      protocol = p₃.0;
      priority = p₄.0;
      joined = p₁.1 ∙ ap (λ (t : List ℕ). p₁.0 ++ t) (p₂.1 ∙ ap (λ (t : List ℕ). p₂.0 ++ t) (p₃.1 ∙ ap (λ (t : List ℕ). p₃.0 ++ t) p₄.1));
      foundation_is = p₁.2;
      component_is = p₂.2;
      protocol_is = p₃.2;
      priority_is = p₄.2;
    })

candidate_lead_complete : (text : List ℕ) (x : CandidateLead) (rest : List ℕ) → IsCandidateLead text x rest → IsWordEnd rest
    → candidate_lead_read text ≡ Some (x, rest)
candidate_lead_complete text x rest h ends =
    let r₄ : List ℕ = h.priority ++ rest in
    let r₃ : List ℕ = h.protocol ++ r₄ in
    let r₂ : List ℕ = h.component ++ r₃ in
    ap candidate_lead_read h.joined
    ∙ label_bind_is _ _ _ _ ((labelled_front candidate_label.CANDIDATE.now).complete h.foundation x.foundation r₂ h.foundation_is
    (candidate_ends_labelled (IsNum 65535) (codes " ") h.component r₃ x.component_id (λ m. refl) h.component_is))
    (label_bind_is _ _ _ _ ((labelled_part_front (codes " ") (candidate_num_both 65535)).complete h.component x.component_id r₃
    h.component_is
    (candidate_ends_labelled IsProtocolText (codes " ") h.protocol r₄ x.proto (λ m. refl) h.protocol_is))
    (label_bind_is _ _ _ _ ((labelled_part_front (codes " ") candidate_protocol_both).complete h.protocol x.proto r₄ h.protocol_is
    (candidate_ends_labelled (IsNum 4294967295) (codes " ") h.priority rest x.prio (λ m. refl) h.priority_is))
    (label_bind_is _ _ _ _ ((labelled_part_front (codes " ") (candidate_num_both 4294967295)).complete h.priority x.prio rest h.priority_is
    ends) refl)))

-- ---- the last parts

-- nothing is left
candidate_no_extras_left : {A : Type 0} (rest : List ℕ) (made x : A) → cond (is_rest rest) None (Some made) ≡ Some x
    → (rest ≡ []) × (made ≡ x)
candidate_no_extras_left [] made x e = (refl, cuts_some_is made x e)
candidate_no_extras_left (y ∷ rest) made x e = let none = rw (num_rest_true (y ∷ rest) (omega arith)) at e in absurd cc

record IsLastUfrag (text : List ℕ) (x : Option (List ℕ)) : Type 0 where
  generation : List ℕ
  names : List ℕ
  cost : List ℕ
  joined : text ≡ generation ++ (names ++ cost)
  generation_is : IsOptionalLabelUnkept candidate_label.GENERATION.now generation
  names_are : AreIceNames names x
  cost_is : IsOptionalLabelUnkept candidate_label.NETWORK_COST.now cost

candidate_last_sound : (text : List ℕ) (x : Option (List ℕ)) → candidate_last_read text ≡ Some x → IsLastUfrag text x
candidate_last_sound text x e =
    label_option_bound (optional_label_read candidate_label.GENERATION.now text) _ _ e λ generation e₁ k₁.
    label_option_bound (ice_names_read generation.1) _ _ k₁ λ names e₂ k₂.
    label_option_bound (optional_label_read candidate_label.NETWORK_COST.now names.1) _ _ k₂ λ cost e₃ last.
    let done = candidate_no_extras_left cost.1 names.0 x last in
    let p₁ = (optional_label_front candidate_label.GENERATION.now).sound text generation e₁ in
    let p₂ = names_front.sound generation.1 names e₂ in
    let p₃ = (optional_label_front candidate_label.NETWORK_COST.now).sound names.1 cost e₃ in
    let end : names.1 ≡ p₃.0 = p₃.1 ∙ ap (λ (t : List ℕ). p₃.0 ++ t) done.0 ∙ append-nil p₃.0 in
    subst (IsLastUfrag text) done.1 (record {
      generation = p₁.0;
      names = p₂.0;
      cost = p₃.0;
      joined = p₁.1 ∙ ap (λ (t : List ℕ). p₁.0 ++ t) (p₂.1 ∙ ap (λ (t : List ℕ). p₂.0 ++ t) end);
      generation_is = (generation.0, p₁.2);
      names_are = p₂.2;
      cost_is = (cost.0, p₃.2);
    })

candidate_cost_starts : (cost : List ℕ) → IsOptionalLabelUnkept candidate_label.NETWORK_COST.now cost
    → StartsWithLabel candidate_from_cost cost
candidate_cost_starts cost h = grind arith

candidate_cost_complete : (cost : List ℕ) (h : IsOptionalLabelUnkept candidate_label.NETWORK_COST.now cost)
    → optional_label_read candidate_label.NETWORK_COST.now cost ≡ Some (h.0, [])
candidate_cost_complete cost h = grind (arith, append-nil cost, optional_label_front candidate_label.NETWORK_COST.now)

names_start : (text : List ℕ) (x : Option (List ℕ)) (h : IsLastUfrag text x) → StartsWithLabel from_names (h.names ++ h.cost)
names_start text x h = starts_names h.names h.cost x h.names_are (candidate_cost_starts h.cost h.cost_is)

candidate_last_starts : (text : List ℕ) (x : Option (List ℕ)) → IsLastUfrag text x → StartsWithLabel candidate_from_generation text
candidate_last_starts text x h =
    search (
      rules,
      label_starts_optional IsSameLabel candidate_label.GENERATION.now from_names h.generation (h.names ++ h.cost) h.generation_is.0
          h.generation_is.1,
      names_start text x h,
    )

candidate_last_ufrag_complete : (text : List ℕ) (x : Option (List ℕ)) → IsLastUfrag text x → candidate_last_read text ≡ Some x
candidate_last_ufrag_complete text x h =
    let r₂ : List ℕ = h.names ++ h.cost in
    let b₁ : EndsWithoutLabel candidate_label.GENERATION.now r₂ =
    label_starts_all (EndsWithoutLabel candidate_label.GENERATION.now) from_names (refl, refl)
    (λ m. (refl, refl), (λ m. (refl, refl), (λ m. (refl, refl), tt))) r₂ (names_start text x h) in
    let b₂ : EndsNames h.cost = label_starts_all EndsNames candidate_from_cost (refl, refl, refl) (λ m. (refl, refl, refl), tt) h.cost
    (candidate_cost_starts h.cost h.cost_is) in
    ap candidate_last_read h.joined
    ∙ label_bind_is _ _ _ _ ((optional_label_front candidate_label.GENERATION.now).complete h.generation h.generation_is.0 r₂
    h.generation_is.1 b₁)
    (label_bind_is _ _ _ _ (names_front.complete h.names x h.cost h.names_are b₂)
    (label_bind_is _ _ _ _ (candidate_cost_complete h.cost h.cost_is) refl))

-- ---- the parts after the kind

record IsCandidateExtras (text : List ℕ) (x : CandidateExtras) : Type 0 where
  related : List ℕ
  tcp_type : List ℕ
  last : List ℕ
  joined : text ≡ related ++ (tcp_type ++ last)
  related_is : IsRelatedAddress related x.raddr
  tcp_type_is : IsOptionalLabelled candidate_label.TCP_TYPE.now IsTcpTypeText tcp_type x.tcptype
  last_is : IsLastUfrag last x.ufrag

candidate_extras_sound : (text : List ℕ) (x : CandidateExtras) → candidate_extras_read text ≡ Some x → IsCandidateExtras text x
candidate_extras_sound text x e =
    label_option_bound (candidate_related_read text) _ _ e λ related e₁ k₁.
    label_option_bound (tcp_part_read related.1) _ _ k₁ λ tcp_type e₂ k₂.
    label_option_bound (candidate_last_read tcp_type.1) _ _ k₂ λ ufrag e₃ same.
    let p₁ = candidate_related_front.sound text related e₁ in
    let p₂ = tcp_front.sound related.1 tcp_type e₂ in
    let made : CandidateExtras = record { raddr = related.0; tcptype = tcp_type.0; ufrag = ufrag } in
    subst (IsCandidateExtras text) (cuts_some_is made x same) (record {
      related = p₁.0;
      tcp_type = p₂.0;
      last = tcp_type.1;
      joined = p₁.1 ∙ ap (λ (t : List ℕ). p₁.0 ++ t) p₂.1;
      related_is = p₁.2;
      tcp_type_is = p₂.2;
      last_is = candidate_last_sound tcp_type.1 ufrag e₃;
    })

tcp_type_starts : (text : List ℕ) (x : CandidateExtras) (h : IsCandidateExtras text x)
    → StartsWithLabel from_tcp_type (h.tcp_type ++ h.last)
tcp_type_starts text x h =
    search (
      rules,
      label_starts_optional IsTcpTypeText candidate_label.TCP_TYPE.now candidate_from_generation h.tcp_type h.last x.tcptype h.tcp_type_is,
      candidate_last_starts h.last x.ufrag h.last_is,
    )

candidate_extras_end : (text : List ℕ) (x : CandidateExtras) → IsCandidateExtras text x → IsWordEnd text
candidate_extras_end text x h = grind arith

candidate_extras_complete : (text : List ℕ) (x : CandidateExtras) → IsCandidateExtras text x → candidate_extras_read text ≡ Some x
candidate_extras_complete text x h =
    grind (
      arith,
      label_starts_all (EndsWithoutLabel candidate_label.TCP_TYPE.now) candidate_from_generation,
      label_starts_all (EndsWithoutLabel candidate_label.RELATED_ADDRESS.now) from_tcp_type,
      tcp_type_starts text x h,
      candidate_last_starts h.last x.ufrag h.last_is,
      label_bind_is,
      candidate_related_front,
      tcp_front,
      candidate_last_ufrag_complete h.last x.ufrag h.last_is,
    )

-- ---- the whole text

spaced_socket : LabelFront (IsCandidateSocket (codes " ") (codes " ")) IsWordEnd (candidate_socket_read (codes " ") (codes " "))
spaced_socket = candidate_socket_front (codes " ") (codes " ") (λ more. refl)

-- what is read stands for the candidate
candidate_sound : (text : List ℕ) (c : Candidate) → candidate_read text ≡ Some c → IsCandidateText text c
candidate_sound text c e =
    label_option_bound (candidate_lead_read text) _ _ e λ lead e₁ k₁.
    label_option_bound (candidate_socket_read (codes " ") (codes " ") lead.1) _ _ k₁ λ address e₂ k₂.
    label_option_bound (labelled_part_read candidate_label.TYPE.now candidate_kind_read address.1) _ _ k₂ λ kind e₃ k₃.
    label_option_bound (candidate_extras_read kind.1) _ _ k₃ λ extras e₄ same.
    let l = candidate_lead_sound text lead e₁ in
    let a = spaced_socket.sound lead.1 address e₂ in
    let k = (labelled_part_front candidate_label.TYPE.now kind_both).sound address.1 kind e₃ in
    let x = candidate_extras_sound kind.1 extras e₄ in
    subst (IsCandidateText text) (cuts_some_is (candidate_of lead.0 address.0 kind.0 extras) c same) (record {
      foundation = l.foundation;
      component = l.component;
      protocol = l.protocol;
      priority = l.priority;
      address = a.0;
      kind = k.0;
      related = x.related;
      tcp_type = x.tcp_type;
      generation = x.last_is.generation;
      names = x.last_is.names;
      cost = x.last_is.cost;
      joined = l.joined ∙ ap (λ (t : List ℕ). l.foundation ++ (l.component ++ (l.protocol ++ (l.priority ++ t))))
          (a.1 ∙ ap (λ (t : List ℕ). a.0 ++ t)
          (k.1 ∙ ap (λ (t : List ℕ). k.0 ++ t) (x.joined ∙ ap (λ (t : List ℕ). x.related ++ (x.tcp_type ++ t)) x.last_is.joined)));
      foundation_is = l.foundation_is;
      component_is = l.component_is;
      protocol_is = l.protocol_is;
      priority_is = l.priority_is;
      address_is = a.2;
      kind_is = k.2;
      related_is = x.related_is;
      tcp_type_is = x.tcp_type_is;
      generation_is = x.last_is.generation_is;
      names_are = x.last_is.names_are;
      cost_is = x.last_is.cost_is;
    })

-- what stands for a candidate is read
candidate_complete : (text : List ℕ) (c : Candidate) → IsCandidateText text c → candidate_read text ≡ Some c
candidate_complete text c h =
    let r₃ : List ℕ = h.related ++ (h.tcp_type ++ (h.generation ++ (h.names ++ h.cost))) in
    let r₂ : List ℕ = h.kind ++ r₃ in
    let r₁ : List ℕ = h.address ++ r₂ in
    let lead : CandidateLead = record { foundation = c.foundation; component_id = c.component_id; proto = c.proto; prio = c.prio } in
    let lead-is : IsCandidateLead text lead r₁ = record {
      foundation = h.foundation;
      component = h.component;
      protocol = h.protocol;
      priority = h.priority;
      joined = h.joined;
      foundation_is = h.foundation_is;
      component_is = h.component_is;
      protocol_is = h.protocol_is;
      priority_is = h.priority_is;
    } in
    let last-is : IsLastUfrag (h.generation ++ (h.names ++ h.cost)) c.ufrag = record {
      generation = h.generation;
      names = h.names;
      cost = h.cost;
      joined = refl;
      generation_is = h.generation_is;
      names_are = h.names_are;
      cost_is = h.cost_is;
    } in
    let extras : CandidateExtras = record { raddr = c.raddr; tcptype = c.tcptype; ufrag = c.ufrag } in
    let extras-are : IsCandidateExtras r₃ extras = record {
      related = h.related;
      tcp_type = h.tcp_type;
      last = h.generation ++ (h.names ++ h.cost);
      joined = refl;
      related_is = h.related_is;
      tcp_type_is = h.tcp_type_is;
      last_is = last-is;
    } in
    label_bind_is _ _ _ _ (candidate_lead_complete text lead r₁ lead-is (candidate_ends_socket h.address r₂ c.addr h.address_is))
    (label_bind_is _ _ _ _ (spaced_socket.complete h.address c.addr r₂ h.address_is
    (candidate_ends_labelled IsKindText candidate_label.TYPE.now h.kind r₃ c.kind (λ m. refl) h.kind_is))
    (label_bind_is _ _ _ _ ((labelled_part_front candidate_label.TYPE.now kind_both).complete h.kind c.kind r₃ h.kind_is
    (candidate_extras_end r₃ extras extras-are))
    (label_bind_is _ _ _ _ (candidate_extras_complete r₃ extras extras-are) refl)))

pub candidate_both : Reads IsCandidateText candidate_read
candidate_both = record { sound = candidate_sound; complete = candidate_complete }
