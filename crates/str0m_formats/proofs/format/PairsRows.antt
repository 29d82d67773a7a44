-- Keys with values that may be absent: what is left of them, looked up, merged and taken apart.
use Rattle.std.specs.List.{IsDistinct}
use Rattle.str0m_formats.proofs.Common.{arith, ◌≡◌, ◌&&◌, ℕ, Bool, true, false, not, cond, List, [], ◌∷◌, ◌++◌, filter, Option, Some, None}
use Rattle.str0m_formats.proofs.Common.{is_some, inl, inr, refl, ap, AllByRecursion, keys_of, list_all, list_any, lookup, bytes_eq}
use Rattle.str0m_formats.proofs.Common.{str_to_ascii_lowercase, cases_Bool, and_parts, not-true, bytes_eq-Decides, ◌<|>◌}
use Rattle.str0m_formats.proofs.format.MergedPairsKeys.{AreLowKeys, AreKeysApart, merged_same}
use Rattle.str0m_formats.specs.format.Pairs.{is_triple_mark, has_triple_mark, pairs_merged, is_triple_key, other_pairs}

abbrev pub PairSlots : Type 0
PairSlots = List (List ℕ × Option (List ℕ))

abbrev pub given_pair_slot : List ℕ → Option (List ℕ) → List (List ℕ × List ℕ) → List (List ℕ × List ℕ)
given_pair_slot key None pairs = pairs
given_pair_slot key (Some value) pairs = (key, value) ∷ pairs

-- the keys that have a value
abbrev pub given_pair_slots : PairSlots → List (List ℕ × List ℕ)
given_pair_slots [] = []
given_pair_slots (row ∷ rows) = given_pair_slot row.0 row.1 (given_pair_slots rows)

pub given_pair_slots-append : (xs ys : PairSlots) → given_pair_slots (xs ++ ys) ≡ given_pair_slots xs ++ given_pair_slots ys
given_pair_slots-append [] ys = refl
given_pair_slots-append ((own, None) ∷ xs) ys = given_pair_slots-append xs ys
given_pair_slots-append ((own, Some value) ∷ xs) ys = ap (λ (t : List (List ℕ × List ℕ)). (own, value) ∷ t) (given_pair_slots-append xs ys)

-- ---- looking up

abbrev pub pair_slot_look : List ℕ → PairSlots → Option (List ℕ)
pair_slot_look key [] = None
pair_slot_look key (row ∷ rows) = cond (bytes_eq key row.0) (row.1 <|> pair_slot_look key rows) (pair_slot_look key rows)

pub pair_slot_look_given : (key : List ℕ) (rows : PairSlots) → lookup (bytes_eq key) (given_pair_slots rows) ≡ pair_slot_look key rows
pair_slot_look_given key [] = refl
pair_slot_look_given key ((own, None) ∷ rows) = grind (arith, cases_Bool, pair_slot_look_given key rows)
pair_slot_look_given key ((own, Some value) ∷ rows) = grind (arith, cases_Bool, pair_slot_look_given key rows)

-- ---- marks

pub mark_given_pair_slots : (rows : PairSlots) → has_triple_mark (given_pair_slots rows)
    ≡ list_any (λ row. is_triple_mark row.0 && is_some row.1) rows
unfolding has_triple_mark
mark_given_pair_slots [] = refl
mark_given_pair_slots ((own, None) ∷ rows) = grind (arith, cases_Bool, mark_given_pair_slots rows)
mark_given_pair_slots ((own, Some value) ∷ rows) = elim (cases_Bool (is_triple_mark own))
    [ inl e ↦ rw e refl | inr e ↦ rw e (mark_given_pair_slots rows) ]

-- ---- what is no part of a triple

pub others_given_pair_slots : (rows : PairSlots) → other_pairs (given_pair_slots rows)
    ≡ given_pair_slots (filter (λ row. not (is_triple_key row.0)) rows)
others_given_pair_slots [] = refl
others_given_pair_slots ((own, None) ∷ rows) = grind (arith, cases_Bool, others_given_pair_slots rows)
others_given_pair_slots ((own, Some value) ∷ rows) = grind (arith, cases_Bool, others_given_pair_slots rows)

-- ---- merging

-- each key is in lower case, and none stands twice
abbrev pub are_pair_slots_apart : PairSlots → Bool
are_pair_slots_apart [] = true
are_pair_slots_apart (row ∷ rows) = (bytes_eq (str_to_ascii_lowercase row.0) row.0 && list_all (λ d. not (bytes_eq row.0 d.0)) rows)
    && are_pair_slots_apart rows

key_not_in_slots : (key : List ℕ) (rows : PairSlots) → list_all (λ d. not (bytes_eq key d.0)) rows ≡ true
    → AllByRecursion (λ k. bytes_eq key k ≡ false) (keys_of (given_pair_slots rows))
key_not_in_slots key [] e = tt
key_not_in_slots key ((own, None) ∷ rows) e = key_not_in_slots key rows
    (and_parts (not (bytes_eq key own)) (list_all (λ d. not (bytes_eq key d.0)) rows) e).1
key_not_in_slots key ((own, Some value) ∷ rows) e = grind (arith, and_parts, not-true, key_not_in_slots key rows)

given_pair_slots_apart : (rows : PairSlots) → are_pair_slots_apart rows ≡ true
    → AreLowKeys (given_pair_slots rows) × AreKeysApart (given_pair_slots rows)
unfolding IsDistinct
given_pair_slots_apart [] e = (tt, tt)
given_pair_slots_apart ((own, None) ∷ rows) e = given_pair_slots_apart rows
    (and_parts (bytes_eq (str_to_ascii_lowercase own) own && list_all (λ d. not (bytes_eq own d.0)) rows) (are_pair_slots_apart rows) e).1
given_pair_slots_apart ((own, Some value) ∷ rows) e =
    let p = and_parts (bytes_eq (str_to_ascii_lowercase own) own && list_all (λ d. not (bytes_eq own d.0)) rows) (are_pair_slots_apart rows)
    e in
    let q = and_parts (bytes_eq (str_to_ascii_lowercase own) own) (list_all (λ d. not (bytes_eq own d.0)) rows) p.0 in
    let rest = given_pair_slots_apart rows p.1 in
    (((bytes_eq-Decides (str_to_ascii_lowercase own) own).0 q.0, rest.0), (key_not_in_slots own rows q.1, rest.1))

pub merged_given_pair_slots : (rows : PairSlots) → are_pair_slots_apart rows ≡ true
    → pairs_merged (given_pair_slots rows) ≡ given_pair_slots rows
merged_given_pair_slots rows e = let k = given_pair_slots_apart rows e in merged_same (given_pair_slots rows) k.0 k.1
