-- The text of an address is a word.
use Rattle.str0m_values.proofs.Common.{◌≡◌, ◌≢◌, ℕ, ◌<◌, ◌≤◌, ◌+◌, ◌^◌, List, [], ◌∷◌, ◌++◌, length, ap, ◌∙◌, inl, inr, arith, lit≤}
use Rattle.str0m_values.proofs.Common.{length-append, codes, decimal, digit_value, IsNumeral, AllDigits, decimal_is_IsNumeral}
use Rattle.str0m_values.specs.Address.{PartedAddress, IsOctet, IsV4Text, IsHexGroup, IsOneAddressGroup, IsAddressEnd, AreAddressGroups}
use Rattle.str0m_values.specs.Address.{AreAnyAddressGroups}
use Rattle.str0m_values.specs.Address.{IsShortenedAddress}
use Rattle.str0m_values.specs.Address.{IsIpText}
use Rattle.str0m_values.specs.CutsParts.{Lacks, IsRest, IsWord}
use Rattle.str0m_values.specs.declared.address.IpAddr.{IpAddr}
use Rattle.str0m_values.specs.declared.address.IpAddr.TheVariants.{V4, V6}

pub address_lacks_both : (c : ℕ) (xs ys : List ℕ) → Lacks c xs → Lacks c ys → Lacks c (xs ++ ys)
address_lacks_both c [] ys h k = k
address_lacks_both c (x ∷ xs) ys h k = (h.0, address_lacks_both c xs ys h.1 k)

-- a word, a character other than space, and what lacks spaces
word_then : (word : List ℕ) (c : ℕ) (rest : List ℕ) → IsWord word → c ≢ 32 → Lacks 32 rest → IsWord (word ++ (c ∷ rest))
word_then [] c rest h other lacks = absurd (omega (arith, h.0))
word_then (x ∷ word) c rest h other lacks = (omega arith, address_lacks_both 32 (x ∷ word) (c ∷ rest) h.1 (other, lacks))

-- digits of a radix lack a character that is none of them
digits_lack_other : (c radix : ℕ) (digits : List ℕ) → radix ≤ digit_value c → AllDigits radix digits → Lacks c digits
digits_lack_other c radix [] far h = tt
digits_lack_other c radix (x ∷ digits) far h = grind (arith, digits_lack_other c radix digits far h.1)

pub numeral_word : (radix : ℕ) (text : List ℕ) → radix ≤ 16 → IsNumeral radix text → IsWord text
numeral_word radix text low h = (h.0, digits_lack_other 32 radix text (omega arith) h.1)

pub decimal_word : (n : ℕ) → n < 2 ^ 64 → IsWord (decimal n)
decimal_word n small = numeral_word 10 (decimal n) (lit≤ tt) (decimal_is_IsNumeral n small).0

parted_word : (c : ℕ) (F : List ℕ → ℕ → Type 0) → c ≢ 32 → ((text : List ℕ) (x : ℕ) → F text x → IsWord text)
    → (text : List ℕ) (xs : List ℕ) → PartedAddress c F text xs → IsWord text
parted_word c F other word text [] h = absurd h
parted_word c F other word text (x ∷ []) h = word text x h
parted_word c F other word text (x ∷ y ∷ ys) h =
    grind (arith, word_then h.0 c h.1 (word h.0 x h.3) other, parted_word c F other word h.1 (y ∷ ys) h.4)

v4_word : (text octets : List ℕ) → IsV4Text text octets → IsWord text
v4_word text octets h = parted_word 46 IsOctet (λ e. absurd (omega arith)) (λ t n o. rw o.0 (decimal_word n (omega (arith, o.1)))) text
    octets h.0

address_colon_is_no_space : ◌≢◌ {A = ℕ} 58 32
address_colon_is_no_space e = absurd (omega arith)

group_word : (text : List ℕ) (n : ℕ) → IsHexGroup text n → IsWord text
group_word text n h = numeral_word 16 text (lit≤ tt) h.numeral

one_word : (text groups : List ℕ) → IsOneAddressGroup text groups → IsWord text
one_word text groups h = group_word text h.0 h.1

end_word : (text groups : List ℕ) → IsAddressEnd text groups → IsWord text
end_word text groups h = elim h [ inl k ↦ one_word text groups k | inr k ↦ v4_word text k.0 k.1 ]

module _ (Last : List ℕ → List ℕ → Type 0) (last_word : (text groups : List ℕ) → Last text groups → IsWord text) where
  groups_word : (text groups : List ℕ) → AreAddressGroups Last text groups → IsWord text
  groups_word text [] h = absurd h
  groups_word text (n ∷ groups) (inl h) = last_word text (n ∷ groups) h
  groups_word text (n ∷ groups) (inr h) = rw h.2
      (word_then h.0 58 h.1 (group_word h.0 n h.3) address_colon_is_no_space (groups_word h.1 groups h.4).1)

  address_any_groups_lack : (text groups : List ℕ) → AreAnyAddressGroups Last text groups → Lacks 32 text
  address_any_groups_lack text groups h = elim h [ inl k ↦ rw k.0 tt | inr k ↦ (groups_word text groups k).1 ]

short_word : (text groups : List ℕ) → IsShortenedAddress text groups → IsWord text
short_word text groups h =
    let front = address_any_groups_lack IsOneAddressGroup one_word h.front_text h.front h.front_is in
    let back = address_any_groups_lack IsAddressEnd end_word h.back_text h.back h.back_is in
    let lacks : Lacks 32 text = rw h.joined
    (address_lacks_both 32 h.front_text (codes "::" ++ h.back_text) front
    (address_colon_is_no_space, (address_colon_is_no_space, back))) in
    let len : length text ≡ length h.front_text + length (codes "::" ++ h.back_text) =
    ap length h.joined ∙ length-append h.front_text (codes "::" ++ h.back_text) in
    let rest : IsRest text = omega arith in
    (rest, lacks)

pub ip_word : (text : List ℕ) (a : IpAddr) → IsIpText text a → IsWord text
ip_word text (V4 octets) h = v4_word text octets h
ip_word text (V6 groups) h = elim h.0
    [ inl all ↦ groups_word IsAddressEnd end_word text groups all | inr short ↦ short_word text groups short ]
