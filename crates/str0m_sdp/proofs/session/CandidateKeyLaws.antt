-- Keys of candidates tell apart what `==` of candidates does.
use Rattle.str0m_sdp.proofs.Common.{arith, ◌≡◌, ◌&&◌, ◌||◌, ◌++◌, ℕ, Bool, true, false, cond, nat_eq, List, [], ◌∷◌, map, Option, sym, ap}
use Rattle.str0m_sdp.proofs.Common.{◌∙◌, option_map, Bor, BTreeSet, Updates, contains, decided, list_any, option_eq, map-append}
use Rattle.str0m_sdp.proofs.Common.{list_any-append, sameb, IpAddr, SocketAddr, Candidate, is_eq}
use Rattle.str0m_sdp.proofs.session.CandidateEqual.{candidate_Decides}
use Rattle.str0m_sdp.specs.contracts.session.candidate_key.CandidateKeyOrd.TheImpl as order
use Rattle.str0m_sdp.specs.contracts.session.candidate_key.CandidateKeyOrd.TheImpl.Laws as laws
use Rattle.str0m_sdp.specs.contracts.session.candidate_key.CandidateKeyPartialEq.TheImpl as key
use Rattle.str0m_sdp.specs.contracts.session.candidate_key.IpPartPartialEq.TheImpl as part
use Rattle.str0m_sdp.specs.declared.session.candidate_key.CandidateKey.{CandidateKey}
use Rattle.str0m_sdp.specs.declared.session.candidate_key.IpPart.{IpPart}
use Rattle.str0m_sdp.specs.session.CandidateKey.{IsKeyOf, address_part, candidate_ip_part, candidate_kind_part, protocol_part, type_part}
use Rattle.str0m_sdp.specs.session.Candidates.{same_candidate}
use Rattle.str0m_values.specs.contracts.address.IpAddrPartialEq.TheImpl as ip
use Rattle.str0m_values.specs.contracts.address.SocketAddrPartialEq.TheImpl as socket
use Rattle.str0m_values.specs.contracts.candidate_kind.CandidateKind as kind
use Rattle.str0m_values.specs.contracts.protocol.Protocol as protocol
use Rattle.str0m_values.specs.contracts.protocol.TcpType as tcp_type
use Rattle.str0m_values.specs.declared.candidate_kind.CandidateKind.{CandidateKind}
use Rattle.str0m_values.specs.declared.protocol.Protocol.{Protocol}
use Rattle.str0m_values.specs.declared.protocol.TcpType.{TcpType}
use denote.Enum.Declared.{tag_of}

-- ---- the parts

candidate_ip_alike : (a b : IpAddr) → part.eq-value.it (candidate_ip_part a) (candidate_ip_part b) ≡ ip.eq-value.it a b
candidate_ip_alike a b = grind arith

abbrev same_address : IpPart × ℕ → IpPart × ℕ → Bool
same_address a b = part.eq-value.it a.0 b.0 && nat_eq a.1 b.1

address_alike : (a b : SocketAddr) → same_address (address_part a) (address_part b) ≡ socket.eq-value.it a b
address_alike a b = ap (λ (same : Bool). same && nat_eq a.port b.port) (candidate_ip_alike a.ip b.ip)

key_option_alike : {X Y : Type 0} (f : X → Y) (E : X → X → Bool) (F : Y → Y → Bool) → ((a b : X) → F (f a) (f b) ≡ E a b)
    → (a b : Option X) → option_eq F (option_map f a) (option_map f b) ≡ option_eq E a b
key_option_alike f E F alike o p = grind arith

protocol_tag : (a : Protocol) → protocol_part a ≡ tag_of protocol.the_type a
protocol_tag a = grind arith

candidate_kind_tag : (a : CandidateKind) → candidate_kind_part a ≡ tag_of kind.the_type a
candidate_kind_tag a = grind arith

type_tag : (a : TcpType) → type_part a ≡ tag_of tcp_type.the_type a
type_tag a = grind arith

type_alike : (a b : TcpType) → nat_eq (type_part a) (type_part b) ≡ sameb tcp_type.the_type a b
type_alike a b = λ i. nat_eq (type_tag a i) (type_tag b i)

-- ---- the keys

-- they are equal where the candidates are
equal_candidates_alike : (a b : Candidate) (x y : CandidateKey) → IsKeyOf a x → IsKeyOf b y → key.eq-value.it x y ≡ same_candidate a b
equal_candidates_alike a b x y p q = grind (arith, protocol_tag, address_alike, candidate_kind_tag, key_option_alike, type_alike)

-- and stand at one place of the order there
pub key_alike : (a b : Candidate) (x y : CandidateKey) → IsKeyOf a x → IsKeyOf b y → is_eq (order.cmp-value.it x y) ≡ same_candidate a b
key_alike a b x y p q = sym (laws.matches_eq-law x y) ∙ equal_candidates_alike a b x y p q

-- ---- one more of them

key_either_last : (s t : Bool) → cond s true t ≡ (t || (s || false))
key_either_last s t = grind arith

-- a candidate after those that were seen, and its key among theirs
pub candidate_seen_more : (old new : BTreeSet CandidateKey) (once pushed : List (Bor Candidate)) (c : Bor Candidate) (k : CandidateKey)
    → IsKeyOf c.now k → Updates order.cmp-value.it old new k true → pushed ≡ once ++ c ∷ []
    → ((d : Candidate) (q : CandidateKey) → IsKeyOf d q → contains order.cmp-value.it old q
    ≡ list_any (same_candidate d) (map (λ x. x.now) once))
    → (d : Candidate) (q : CandidateKey) → IsKeyOf d q → contains order.cmp-value.it new q
    ≡ list_any (same_candidate d) (map (λ x. x.now) pushed)
candidate_seen_more old new once pushed c k is more last seen d q of =
    let cs = map (λ (x : Bor Candidate). x.now) once in
    more.0 q
    ∙ ap (λ (b : Bool). cond b true (contains order.cmp-value.it old q)) (key_alike c.now d k q is of)
    ∙ ap (λ (b : Bool). cond (same_candidate c.now d) true b) (seen d q of)
    ∙ ap (λ (b : Bool). cond b true (list_any (same_candidate d) cs)) ((decided same_candidate candidate_Decides).symm c.now d)
    ∙ key_either_last (same_candidate d c.now) (list_any (same_candidate d) cs)
    ∙ sym (ap (λ (xs : List (Bor Candidate)). list_any (same_candidate d) (map (λ x. x.now) xs)) last
    ∙ ap (λ (xs : List Candidate). list_any (same_candidate d) xs) (map-append (λ (x : Bor Candidate). x.now) once (c ∷ []))
    ∙ list_any-append (same_candidate d) cs (c.now ∷ []))
