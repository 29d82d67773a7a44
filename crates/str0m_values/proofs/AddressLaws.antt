-- The grammar of addresses here and that of std say the same.
use Rattle.std.specs.Net.Grammar as net
use Rattle.str0m_values.proofs.Common.{◌≡◌, ◌⊎◌, ℕ, ◌+◌, ◌-◌, ◌*◌, Bool, true, false, List, [], ◌∷◌, ◌++◌, length, replicate, refl, sym, ap}
use Rattle.str0m_values.proofs.Common.{◌∙◌, subst, arith, inl, inr, append-nil, append_assoc, length-append, codes, length-replicate}
use Rattle.str0m_values.proofs.Common.{IsTrue, segments_of}
use Rattle.str0m_values.specs.Address.{PartedAddress, IsOctet, IsV4Text, IsHexGroup, IsOneAddressGroup, octet_pairs, IsV4Tail, IsAddressEnd}
use Rattle.str0m_values.specs.Address.{AreAddressGroups}
use Rattle.str0m_values.specs.Address.{AreAnyAddressGroups, IsShortenedAddress, IsV6Text}

-- ---- V4

pub v4_from : (text octets : List ℕ) → net.IsDotted text octets → IsV4Text text octets
v4_from text octets h = grind (arith, append_assoc)

address_four_octets : (text : List ℕ) (a b c d : ℕ) → PartedAddress 46 IsOctet text (a ∷ b ∷ c ∷ d ∷ [])
    → net.IsDotted text (a ∷ b ∷ c ∷ d ∷ [])
address_four_octets text a b c d h = grind (arith, append_assoc)

pub v4_to : (text octets : List ℕ) → IsV4Text text octets → net.IsDotted text octets
v4_to text (a ∷ b ∷ c ∷ d ∷ []) h = address_four_octets text a b c d h.0
v4_to text (a ∷ b ∷ c ∷ d ∷ e ∷ more) h = absurd (omega (arith, h.1))
v4_to text [] h = absurd (omega (arith, h.1))
v4_to text (a ∷ []) h = absurd (omega (arith, h.1))
v4_to text (a ∷ b ∷ []) h = absurd (omega (arith, h.1))
v4_to text (a ∷ b ∷ c ∷ []) h = absurd (omega (arith, h.1))

-- ---- groups

address_group_from : (text : List ℕ) (n : ℕ) → net.IsGroup text n → IsHexGroup text n
address_group_from text n h = record { numeral = h.0.0; value = h.0.1; short = h.1 }

address_group_to : (text : List ℕ) (n : ℕ) → IsHexGroup text n → net.IsGroup text n
address_group_to text n h = ((h.numeral, h.value), h.short)

address_octet_pairs_from : (octets : List ℕ) → segments_of octets ≡ octet_pairs octets
address_octet_pairs_from [] = refl
address_octet_pairs_from (a ∷ []) = refl
address_octet_pairs_from (a ∷ b ∷ octets) = ap (λ (groups : List ℕ). (a * 256 + b) ∷ groups) (address_octet_pairs_from octets)

-- what may end groups, with and without a V4 address
record AddressGroupEnds (v4 : Bool) (Last : List ℕ → List ℕ → Type 0) : Type 0 where
  one : (text groups : List ℕ) → IsOneAddressGroup text groups → Last text groups
  tail : IsTrue v4 → (text groups : List ℕ) → IsV4Tail text groups → Last text groups
  only : (text groups : List ℕ) → Last text groups → IsOneAddressGroup text groups ⊎ (IsTrue v4 × IsV4Tail text groups)

address_one_group_ends : AddressGroupEnds false IsOneAddressGroup
address_one_group_ends = grind arith

address_all_group_ends : AddressGroupEnds true IsAddressEnd
address_all_group_ends = grind arith

module _ {v4 : Bool} {Last : List ℕ → List ℕ → Type 0} (ends : AddressGroupEnds v4 Last) where
  address_groups_from : (lead text : List ℕ) (n : ℕ) (groups : List ℕ) → net.IsGroupsAfter v4 lead text (n ∷ groups)
      → (body : List ℕ) × (text ≡ lead ++ body) × AreAddressGroups Last body (n ∷ groups)
  address_groups_from lead text n groups
      (inr h) = (h.0, h.3, inl (ends.tail h.2 h.0 (n ∷ groups) (h.1, v4_from h.0 h.1 h.4, h.5 ∙ address_octet_pairs_from h.1)))
  address_groups_from lead text n [] (inl h) = grind (arith, append-nil, address_group_from)
  address_groups_from lead text n (m ∷ groups) (inl h) = grind
      (arith, address_groups_from (codes ":") h.1 m groups h.4, append_assoc, address_group_from)

  address_one_group_to : (lead text : List ℕ) (groups : List ℕ) → IsOneAddressGroup text groups
      → net.IsGroupsAfter v4 lead (lead ++ text) groups
  address_one_group_to lead text groups h = grind (arith, append-nil, address_group_to)

  address_v4_tail_to : (lead text : List ℕ) (n : ℕ) (groups : List ℕ) → IsTrue v4 → IsV4Tail text (n ∷ groups)
      → net.IsGroupsAfter v4 lead (lead ++ text) (n ∷ groups)
  address_v4_tail_to lead text n groups allowed h = inr (
    text,
    h.0,
    allowed,
    refl,
    v4_to text h.0 h.1,
    h.2
        ∙ sym (address_octet_pairs_from h.0),
  )

  address_groups_to : (lead text : List ℕ) (groups : List ℕ) → AreAddressGroups Last text groups
      → net.IsGroupsAfter v4 lead (lead ++ text) groups
  address_groups_to lead text [] h = absurd h
  address_groups_to lead text (n ∷ groups) (inl h) =
      elim (ends.only text (n ∷ groups) h)
      [ inl k ↦ address_one_group_to lead text (n ∷ groups) k | inr k ↦ address_v4_tail_to lead text n groups k.0 k.1 ]
  address_groups_to lead text (n ∷ groups) (inr h) = grind (
    arith,
    address_groups_to (codes ":") h.1 groups h.4,
    append_assoc,
    address_group_to,
  )

  address_any_groups_from : (text groups : List ℕ) → net.IsGroups v4 text groups → AreAnyAddressGroups Last text groups
  address_any_groups_from text [] h = inl (h, refl)
  address_any_groups_from text (n ∷ groups) h = grind (arith, address_groups_from [] text n groups h)

  address_any_groups_to : (text groups : List ℕ) → AreAnyAddressGroups Last text groups → net.IsGroups v4 text groups
  address_any_groups_to text groups (inl h) = subst (net.IsGroups v4 text) (sym h.1) h.0
  address_any_groups_to text groups (inr h) = address_groups_to [] text groups h

-- ---- V6

short_from : (text groups : List ℕ) → net.IsElided text groups → IsShortenedAddress text groups × (length groups ≡ 8)
short_from text groups h =
    let zeros = 8 - length h.head - length h.tail in
    let whole : groups ≡ h.head ++ (replicate zeros 0 ++ h.tail) = h.value ∙ append_assoc h.head (replicate zeros 0) h.tail in (
      record {
        front_text = h.head_text;
        back_text = h.tail_text;
        front = h.head;
        back = h.tail;
        zeros = zeros;
        joined = h.spelled ∙ append_assoc h.head_text (codes "::") h.tail_text;
        front_is = address_any_groups_from address_one_group_ends h.head_text h.head h.head_groups;
        back_is = address_any_groups_from address_all_group_ends h.tail_text h.tail h.tail_groups;
        some = omega (arith, h.room);
        groups_are = whole;
      },
      omega (arith, h.room, ap length whole, length-append {A = ℕ}, length-replicate {A = ℕ}),
    )

short_to : (text groups : List ℕ) → IsShortenedAddress text groups → length groups ≡ 8 → net.IsElided text groups
short_to text groups h eight =
    let count : length h.front + (h.zeros + length h.back) ≡ 8 =
    omega (arith, ap length h.groups_are, length-append {A = ℕ}, length-replicate {A = ℕ}) in
    let zeros : h.zeros ≡ 8 - length h.front - length h.back = omega arith in
    record {
      head_text = h.front_text;
      tail_text = h.back_text;
      head = h.front;
      tail = h.back;
      spelled = h.joined ∙ sym (append_assoc h.front_text (codes "::") h.back_text);
      head_groups = address_any_groups_to address_one_group_ends h.front_text h.front h.front_is;
      tail_groups = address_any_groups_to address_all_group_ends h.back_text h.back h.back_is;
      room = omega (arith, h.some);
      value = h.groups_are ∙ ap (λ (k : ℕ). h.front ++ (replicate k 0 ++ h.back)) zeros
          ∙ sym (append_assoc h.front (replicate (8 - length h.front - length h.back) 0) h.back);
    }

pub v6_from : (text groups : List ℕ) → net.IsColonHex text groups → IsV6Text text groups
v6_from text [] (inl h) = absurd (omega (arith, h.1))
v6_from text (n ∷ groups) (inl h) = let all = address_groups_from address_all_group_ends [] text n groups h.0 in
    (inl (subst (λ (t : List ℕ). AreAddressGroups IsAddressEnd t (n ∷ groups)) (sym all.1) all.2), h.1)
v6_from text groups (inr h) = let all = short_from text groups h in (inr all.0, all.1)

pub v6_to : (text groups : List ℕ) → IsV6Text text groups → net.IsColonHex text groups
v6_to text groups h = elim h.0
    [ inl all ↦ inl (address_groups_to address_all_group_ends [] text groups all, h.1) | inr short ↦ inr (short_to text groups short h.1) ]
