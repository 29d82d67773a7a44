-- What is printed of an address stands for it.
use Rattle.std.proofs.NetLemmas.Arrays.{four_items}
use Rattle.std.proofs.NetLemmas.Texts.{IsDotted-ipv4_text, IsColonHex-hex_groups_text}
use Rattle.std.specs.Net.Text as net
use Rattle.std.specs.Net.Text.{hex_groups_text}
use Rattle.str0m_values.proofs.AddressLaws.{v4_from, v6_from}
use Rattle.str0m_values.proofs.Common.{◌≡◌, ℕ, zero, suc, ◌<◌, ◌≤◌, ◌+◌, ◌^◌, List, [], ◌∷◌, ◌++◌, length, get_or, refl, ap, subst, arith}
use Rattle.str0m_values.proofs.Common.{append-nil, append_assoc, lit<, AllByRecursion, cases_lt, le-leb, lt-leb, hex}
use Rattle.str0m_values.specs.Address.{IsV4Text, IsV6Text, IsIpText, v4_text, groups_text, address_zeros_at_front, address_longest_run}
use Rattle.str0m_values.specs.Address.{address_first_run}
use Rattle.str0m_values.specs.Address.{v6_text}
use Rattle.str0m_values.specs.Address.{ip_text, IsAddressInRange}
use Rattle.str0m_values.specs.declared.address.IpAddr.{IpAddr}

-- ---- std's printing and ours

address_more_groups : (n : ℕ) (groups : List ℕ) → net.groups_text (n ∷ groups) ≡ groups_text (n ∷ groups)
address_more_groups n [] = append-nil (hex n)
address_more_groups n (m ∷ groups) = ap (λ (t : List ℕ). hex n ++ (58 ∷ t)) (address_more_groups m groups)

address_same_groups : (groups : List ℕ) → net.groups_text groups ≡ groups_text groups
address_same_groups groups = grind (arith, address_more_groups)

-- a later run is the first of the longest, or the one at the front is
address_later_zero_run : (n : ℕ) (groups : List ℕ) → address_zeros_at_front (n ∷ groups) < address_longest_run groups
    → ◌≡◌ {A = ℕ × ℕ} (address_first_run (address_longest_run groups) groups + 1, address_longest_run groups)
    (address_first_run (address_longest_run (n ∷ groups)) (n ∷ groups), address_longest_run (n ∷ groups))
address_later_zero_run n groups shorter = grind arith

address_front_zero_run : (n : ℕ) (groups : List ℕ) → address_longest_run groups ≤ address_zeros_at_front (n ∷ groups)
    → ◌≡◌ {A = ℕ × ℕ} (0, address_zeros_at_front (n ∷ groups)) (
      address_first_run (address_longest_run (n ∷ groups)) (n ∷ groups),
      address_longest_run (n ∷ groups),
    )
address_front_zero_run n groups longer = grind arith

address_same_zero_run : (groups : List ℕ) → net.longest_zero_run groups
    ≡ (address_first_run (address_longest_run groups) groups, address_longest_run groups)
address_same_zero_run [] = refl
address_same_zero_run (n ∷ groups) = grind (
  arith,
  address_same_zero_run groups,
  cases_lt,
  lt-leb,
  address_later_zero_run,
  le-leb,
  address_front_zero_run,
)

pub same_v6 : (groups : List ℕ) → hex_groups_text groups ≡ v6_text groups
unfolding hex_groups_text v6_text
same_v6 groups = grind (arith, address_same_zero_run, address_same_groups, append_assoc)

-- ---- what is printed is in the grammar

address_each_group_below : (limit : ℕ) (xs : List ℕ) → 0 < limit → AllByRecursion (λ n. n < limit) xs → (k : ℕ) → get_or xs k 0 < limit
address_each_group_below limit [] some h k = some
address_each_group_below limit (x ∷ xs) some h zero = h.0
address_each_group_below limit (x ∷ xs) some h (suc k) = address_each_group_below limit xs some h.1 k

same_v4 : (octets : List ℕ) → length octets ≡ 4 → net.ipv4_text octets ≡ v4_text octets
same_v4 octets four = rw (four_items octets four) (simp append_assoc)

pub printed_v4 : (octets : List ℕ) → length octets ≡ 4 → AllByRecursion (λ n. n < 2 ^ 8) octets → IsV4Text (v4_text octets) octets
printed_v4 octets four small = subst (λ t. IsV4Text t octets) (same_v4 octets four)
    (v4_from (net.ipv4_text octets) octets (IsDotted-ipv4_text octets four (address_each_group_below (2 ^ 8) octets (lit< tt) small)))

pub printed_v6 : (groups : List ℕ) → length groups ≡ 8 → AllByRecursion (λ n. n < 2 ^ 16) groups → IsV6Text (v6_text groups) groups
printed_v6 groups eight small = subst (λ t. IsV6Text t groups) (same_v6 groups)
    (v6_from (hex_groups_text groups) groups
    (IsColonHex-hex_groups_text groups eight (address_each_group_below (2 ^ 16) groups (lit< tt) small)))

pub ip_printed : (a : IpAddr) → IsAddressInRange a → IsIpText (ip_text a) a
ip_printed a h = grind (arith, printed_v4, printed_v6)
