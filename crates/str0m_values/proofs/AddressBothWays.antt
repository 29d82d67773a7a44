-- A text is read as an address exactly where it stands for it.
use Rattle.std.proofs.NetLemmas.Ipv4.{read_ipv4_complete, read_ipv4_sound}
use Rattle.std.proofs.NetLemmas.Ipv6.{read_ipv6_complete, read_ipv6_sound, EndsGroups-nil, IsDotted-not_colon_hex}
use Rattle.std.specs.Net.Grammar as net
use Rattle.std.specs.Net.Reader.{Read, whole_value, read_ipv4, read_ipv6}
use Rattle.std.specs.declared.net.ip_addr.IpAddr.{IpAddr as NetIpAddr}
use Rattle.std.specs.declared.net.ip_addr.IpAddr.TheVariants as NetIp
use Rattle.str0m_values.proofs.AddressLaws.{v4_from, v4_to, v6_from, v6_to}
use Rattle.str0m_values.proofs.Common.{rules, ◌≡◌, ℕ, List, [], ◌∷◌, ◌++◌, length, Option, Some, None, refl, sym, ap, arith, append-nil}
use Rattle.str0m_values.proofs.Common.{option_map, ipv6_segments, ne_eqb, ipv4_octets}
use Rattle.str0m_values.proofs.CutsBothWays.{Reads, cuts_or_some, cuts_some_is, cuts_reads_none}
use Rattle.str0m_values.specs.Address.{IsIpText}
use Rattle.str0m_values.specs.AddressReading.{own_address, ip_read}
use Rattle.str0m_values.specs.declared.address.IpAddr.{IpAddr}
use Rattle.str0m_values.specs.declared.address.IpAddr.TheVariants.{V4, V6}

-- ---- std's reading of the front of a text, where it is the whole

address_whole_some : {A : Type 0} (r : Read A) (x : A) → whole_value r ≡ Some x → r ≡ Some (x, [])
address_whole_some None x e = absurd cc
address_whole_some {A} (Some (y, [])) x e = ap (λ (z : A). Some (z, [])) (cuts_some_is y x e)
address_whole_some (Some (y, c ∷ rest)) x e = let none = rw (ne_eqb (length (c ∷ rest)) 0 (omega arith)) at e in absurd cc

address_whole_both : {A : Type 0} (F : List ℕ → A → Type 0) (read : List ℕ → Read A)
    → ((text : List ℕ) (x : A) (rest : List ℕ) → read text ≡ Some (x, rest) → (front : List ℕ) × (text ≡ front ++ rest) × F front x)
    → ((text : List ℕ) (x : A) → F text x → read (text ++ []) ≡ Some (x, []))
    → Reads F (λ text. whole_value (read text))
address_whole_both F read sound complete = grind (arith, address_whole_some, append-nil)

v4_both : Reads net.IsDotted (λ text. whole_value (read_ipv4 text))
v4_both = search (rules, address_whole_both, read_ipv4_sound, read_ipv4_complete)

v6_both : Reads net.IsColonHex (λ text. whole_value (read_ipv6 text))
v6_both = address_whole_both net.IsColonHex read_ipv6 (λ text groups rest. read_ipv6_sound text groups rest)
    (λ text groups h. read_ipv6_complete text groups [] h EndsGroups-nil)

-- ---- both kinds

address_map_some : {A B : Type 0} (f : A → B) (o : Option A) (y : B) → option_map f o ≡ Some y → (x : A) × (o ≡ Some x) × (f x ≡ y)
address_map_some f o y e = grind arith

ip_sound : (text : List ℕ) (a : IpAddr) → ip_read text ≡ Some a → IsIpText text a
unfolding ip_read
ip_sound text a e = grind (arith, cuts_or_some, address_map_some, v4_from, v4_both, v6_from, v6_both)

ip_complete : (text : List ℕ) (a : IpAddr) → IsIpText text a → ip_read text ≡ Some a
unfolding ip_read
ip_complete text (V4 octets) h = rw (v4_both.complete text octets (v4_to text octets h)) refl
ip_complete text (V6 groups) h =
    let spelled = v6_to text groups h in
    rw (
      cuts_reads_none v4_both text (λ octets dotted. IsDotted-not_colon_hex text octets groups dotted spelled),
      v6_both.complete text groups spelled,
    ) refl

pub ip_both : Reads IsIpText ip_read
ip_both = record { sound = ip_sound; complete = ip_complete }

-- ---- what std's parse gives

own_address_from : (text : List ℕ) (a : NetIpAddr) → net.IsIpText text a → IsIpText text (own_address a)
own_address_from text a h = grind (arith, v4_from, ipv4_octets, v6_from, ipv6_segments)

abbrev net_address_of : IpAddr → NetIpAddr
net_address_of (V4 octets) = NetIp.V4 (record { octets = octets })
net_address_of (V6 groups) = NetIp.V6 (record { segments = groups })

net_address_to : (text : List ℕ) (a : IpAddr) → IsIpText text a → net.IsIpText text (net_address_of a)
net_address_to text a h = grind (arith, v4_to, v6_to)

pub ip_parsed_ok : (text : List ℕ) (a : NetIpAddr) → net.IsIpText text a → Some (own_address a) ≡ ip_read text
ip_parsed_ok text a h = sym (ip_complete text (own_address a) (own_address_from text a h))

pub ip_parsed_err : (text : List ℕ) → ((a : NetIpAddr) → net.IsIpText text a → ⊥) → None ≡ ip_read text
ip_parsed_err text none = sym (cuts_reads_none ip_both text (λ a is. none (net_address_of a) (net_address_to text a is)))
