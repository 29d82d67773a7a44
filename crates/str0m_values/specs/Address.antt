-- The texts of addresses (RFC 4291 section 2.2), and the one that is printed (RFC 5952 section 4).
use Rattle.std.specs.List.{AllByRecursion, prefix_len}
use Rattle.std.specs.Net.Text.{hex}
use Rattle.std.specs.Prelude.{◌≡◌, ◌⊎◌, ℕ, ◌+◌, ◌*◌, ◌^◌, ◌<◌, ◌≤◌, ◌==◌, nat_lt, max, List, [], ◌∷◌, ◌++◌, length, take, drop, map, replicate, codes, if◌then◌else◌, decimal}
use Rattle.std.specs.Str.Parse.{IsNumeral, digits_value}
use Rattle.str0m_values.specs.declared.address.IpAddr.{IpAddr}
use Rattle.str0m_values.specs.declared.address.IpAddr.TheVariants.{V4, V6}
use Rattle.str0m_values.specs.declared.address.SocketAddr.{SocketAddr}

-- ---- parts with a character between them

-- the texts with c between them
abbrev pub address_joined_by : ℕ → List (List ℕ) → List ℕ
address_joined_by c [] = []
address_joined_by c (text ∷ []) = text
address_joined_by c (text ∷ more ∷ texts) = text ++ (c ∷ address_joined_by c (more ∷ texts))

-- one or more parts with c between them, each with its value by F
abbrev pub PartedAddress : {B : Type 0} → ℕ → (List ℕ → B → Type 0) → List ℕ → List B → Type 0
PartedAddress c F text [] = ⊥
PartedAddress c F text (x ∷ []) = F text x
PartedAddress c F text (x ∷ y ∷ ys) = (part : List ℕ) × (rest : List ℕ) × (text ≡ part ++ (c ∷ rest)) × F part x × PartedAddress c F rest (y ∷ ys)

-- ---- what a text stands for

-- a decimal number up to 255 without leading zeros
abbrev pub IsOctet : List ℕ → ℕ → Type 0
IsOctet text n = (text ≡ decimal n) × (n < 2 ^ 8)

-- four of them parted by dots
abbrev pub IsV4Text : List ℕ → List ℕ → Type 0
IsV4Text text octets = PartedAddress 46 IsOctet text octets × (length octets ≡ 4)

-- one to four hex digits
pub record IsHexGroup (text : List ℕ) (n : ℕ) : Type 0 where
  pub numeral : IsNumeral 16 text
  pub value : digits_value 16 text ≡ n
  pub short : length text ≤ 4

-- one group
abbrev pub IsOneAddressGroup : List ℕ → List ℕ → Type 0
IsOneAddressGroup text groups = (n : ℕ) × IsHexGroup text n × (groups ≡ n ∷ [])

-- each two octets as a group
abbrev pub octet_pairs : List ℕ → List ℕ
octet_pairs (a ∷ b ∷ octets) = (a * 256 + b) ∷ octet_pairs octets
octet_pairs octets = []

-- a V4 address for the last two groups
abbrev pub IsV4Tail : List ℕ → List ℕ → Type 0
IsV4Tail text groups = (octets : List ℕ) × IsV4Text text octets × (groups ≡ octet_pairs octets)

-- what ends an address
abbrev pub IsAddressEnd : List ℕ → List ℕ → Type 0
IsAddressEnd text groups = IsOneAddressGroup text groups ⊎ IsV4Tail text groups

-- groups parted by colons, the last of them as Last says
abbrev pub AreAddressGroups : (List ℕ → List ℕ → Type 0) → List ℕ → List ℕ → Type 0
AreAddressGroups Last text [] = ⊥
AreAddressGroups Last text (n ∷ groups) =
    Last text (n ∷ groups)
    ⊎ ((group : List ℕ) × (rest : List ℕ) × (text ≡ group ++ (codes ":" ++ rest)) × IsHexGroup group n × AreAddressGroups Last rest groups)

-- the same, or nothing
abbrev pub AreAnyAddressGroups : (List ℕ → List ℕ → Type 0) → List ℕ → List ℕ → Type 0
AreAnyAddressGroups Last text groups = ((text ≡ []) × (groups ≡ [])) ⊎ AreAddressGroups Last text groups

-- `::` in place of one or more groups, which are zero
pub record IsShortenedAddress (text groups : List ℕ) : Type 0 where
  pub front_text : List ℕ
  pub back_text : List ℕ
  pub front : List ℕ
  pub back : List ℕ
  pub zeros : ℕ
  pub joined : text ≡ front_text ++ (codes "::" ++ back_text)
  pub front_is : AreAnyAddressGroups IsOneAddressGroup front_text front
  pub back_is : AreAnyAddressGroups IsAddressEnd back_text back
  pub some : 0 < zeros
  pub groups_are : groups ≡ front ++ (replicate zeros 0 ++ back)

abbrev pub IsV6Text : List ℕ → List ℕ → Type 0
IsV6Text text groups = (AreAddressGroups IsAddressEnd text groups ⊎ IsShortenedAddress text groups) × (length groups ≡ 8)

-- the text stands for the address
abbrev pub IsIpText : List ℕ → IpAddr → Type 0
IsIpText text (V4 octets) = IsV4Text text octets
IsIpText text (V6 groups) = IsV6Text text groups

-- ---- what is printed

-- octets in decimal
abbrev pub v4_text : List ℕ → List ℕ
v4_text octets = address_joined_by 46 (map decimal octets)

-- groups in lower-case hex without leading zeros
abbrev pub groups_text : List ℕ → List ℕ
groups_text groups = address_joined_by 58 (map hex groups)

-- how many zero groups stand at the front
abbrev pub address_zeros_at_front : List ℕ → ℕ
address_zeros_at_front groups = prefix_len (λ n. n == 0) groups

-- the length of the longest run of zero groups
abbrev pub address_longest_run : List ℕ → ℕ
address_longest_run [] = 0
address_longest_run (n ∷ groups) = max (address_zeros_at_front (n ∷ groups)) (address_longest_run groups)

-- the first place from which so many zero groups stand
abbrev pub address_first_run : ℕ → List ℕ → ℕ
address_first_run len [] = 0
address_first_run len (n ∷ groups) = if address_zeros_at_front (n ∷ groups) == len then 0 else address_first_run len groups + 1

-- `::` in place of len groups from start on
abbrev pub shortened_address : ℕ → ℕ → List ℕ → List ℕ
shortened_address start len groups = groups_text (take start groups) ++ (codes "::" ++ groups_text (drop (start + len) groups))

-- groups with `::` in place of the longest run of two or more zero groups, and of such runs the first
unfoldable pub v6_text : List ℕ → List ℕ
v6_text groups =
    let len = address_longest_run groups in
    if nat_lt 1 len then shortened_address (address_first_run len groups) len groups else groups_text groups

-- what is printed of an address
abbrev pub ip_text : IpAddr → List ℕ
ip_text (V4 octets) = v4_text octets
ip_text (V6 groups) = v6_text groups

-- an address in front of a port: in brackets where it has colons of its own (RFC 3986, section 3.2.2)
abbrev pub host_text : IpAddr → List ℕ → List ℕ
host_text (V4 octets) port = v4_text octets ++ (codes ":" ++ port)
host_text (V6 groups) port = codes "[" ++ (v6_text groups ++ (codes "]:" ++ port))

abbrev pub address_text : SocketAddr → List ℕ
address_text addr = host_text addr.ip (decimal addr.port)

-- what the types keep: four octets, or eight groups of 16 bits
abbrev pub IsAddressInRange : IpAddr → Type 0
IsAddressInRange (V4 octets) = (length octets ≡ 4) × AllByRecursion (λ n. n < 2 ^ 8) octets
IsAddressInRange (V6 groups) = (length groups ≡ 8) × AllByRecursion (λ n. n < 2 ^ 16) groups
