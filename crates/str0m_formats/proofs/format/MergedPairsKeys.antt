-- Merged pairs have keys in lower case, each once; and pairs that have are merged already.
use Rattle.std.proofs.lemmas.Map.Made.{IsDistinct-keys_filter}
use Rattle.std.proofs.lemmas.Str.Ascii.{lowercase-lowercase}
use Rattle.std.specs.List.{IsDistinct}
use Rattle.str0m_formats.proofs.Common.{rules, arith, ◌≡◌, ℕ, false, not, List, [], ◌∷◌, ◌++◌, map, refl, sym, ap, ◌∙◌, inl, inr}
use Rattle.str0m_formats.proofs.Common.{AllByRecursion, keys_of, bytes_eq, str_to_ascii_lowercase, cases_Bool, false_from_ne_true}
use Rattle.str0m_formats.proofs.Common.{append_assoc, append-nil, IsDistinct-cons, IsDistinct-head, IsDistinct-tail, bytes_eq-Decides}
use Rattle.str0m_formats.proofs.Common.{insert_entry, insert_all, insert_entry-absent}
use Rattle.str0m_formats.specs.format.Pairs.{pairs_merged, other_pairs, is_triple_key}

abbrev pub Pairs : Type 0
Pairs = List (List ℕ × List ℕ)

-- the key is in lower case
abbrev pub IsLowKey : List ℕ → Type 0
IsLowKey text = str_to_ascii_lowercase text ≡ text

-- so are all of these
abbrev pub AreLowKeys : List (List ℕ × List ℕ) → Type 0
AreLowKeys pairs = AllByRecursion IsLowKey (keys_of pairs)

abbrev pub AreKeysApart : List (List ℕ × List ℕ) → Type 0
AreKeysApart pairs = IsDistinct bytes_eq (keys_of pairs)

-- ---- keys that differ

pub pair_key_bytes_turned : (a b : List ℕ) → bytes_eq a b ≡ false → bytes_eq b a ≡ false
pair_key_bytes_turned a b other = grind (arith, false_from_ne_true, bytes_eq-Decides)

-- ---- what merging leaves

merged_inserted_all : (P : List ℕ → Type 0) (es : Pairs) (k v : List ℕ) → AllByRecursion P (keys_of es) → P k
    → AllByRecursion P (keys_of (insert_entry bytes_eq es k v))
merged_inserted_all P [] k v all own = (own, tt)
merged_inserted_all P (e ∷ es) k v all own = grind (arith, cases_Bool, merged_inserted_all P es k v all.1 own)

merged_inserted_apart : (es : Pairs) (k v : List ℕ) → AreKeysApart es → AreKeysApart (insert_entry bytes_eq es k v)
merged_inserted_apart [] k v apart = IsDistinct-cons bytes_eq k [] tt apart
merged_inserted_apart (e ∷ es) k v apart =
    elim (cases_Bool (bytes_eq k e.0)) [
      | inl same ↦ rw same apart
      | inr other ↦
          rw other (IsDistinct-cons bytes_eq e.0 (keys_of (insert_entry bytes_eq es k v))
          (merged_inserted_all (λ y. bytes_eq e.0 y ≡ false) es k v (IsDistinct-head bytes_eq e.0 (keys_of es) apart)
          (pair_key_bytes_turned k e.0 other))
          (merged_inserted_apart es k v (IsDistinct-tail bytes_eq e.0 (keys_of es) apart)))
    ]

merged_all_inserted : (es xs : Pairs) → AreKeysApart es → AreLowKeys es → AreLowKeys xs
    → AreKeysApart (insert_all bytes_eq es xs) × AreLowKeys (insert_all bytes_eq es xs)
merged_all_inserted es [] apart low lows = (apart, low)
merged_all_inserted es (x ∷ xs) apart low lows = search (
  rules,
  merged_all_inserted (insert_entry bytes_eq es x.0 x.1) xs,
  merged_inserted_apart,
  merged_inserted_all,
)

abbrev merged_lowered : List (List ℕ × List ℕ) → List (List ℕ × List ℕ)
merged_lowered pairs = map (λ pair. (str_to_ascii_lowercase pair.0, pair.1)) pairs

merged_lowered_twice : (text : List ℕ) → IsLowKey (str_to_ascii_lowercase text)
merged_lowered_twice [] = refl
merged_lowered_twice (c ∷ cs) = λ i. lowercase-lowercase c i ∷ merged_lowered_twice cs i

merged_lowered_low : (pairs : Pairs) → AreLowKeys (merged_lowered pairs)
merged_lowered_low [] = tt
merged_lowered_low (pair ∷ pairs) = (merged_lowered_twice pair.0, merged_lowered_low pairs)

pub merged_apart : (pairs : List (List ℕ × List ℕ)) → AreKeysApart (pairs_merged pairs) × AreLowKeys (pairs_merged pairs)
unfolding pairs_merged IsDistinct
merged_apart pairs = merged_all_inserted [] (merged_lowered pairs) tt tt (merged_lowered_low pairs)

-- ---- what is no part of a triple

pub merged_others_all : (P : List ℕ → Type 0) (pairs : List (List ℕ × List ℕ)) → AllByRecursion P (keys_of pairs)
    → AllByRecursion P (keys_of (other_pairs pairs))
merged_others_all P [] all = tt
merged_others_all P (pair ∷ pairs) all = grind (arith, cases_Bool, merged_others_all P pairs all.1)

pub merged_others_apart : (pairs : List (List ℕ × List ℕ)) → AreKeysApart pairs → AreKeysApart (other_pairs pairs)
merged_others_apart pairs apart = IsDistinct-keys_filter bytes_eq (λ pair. not (is_triple_key pair.0)) pairs apart

pub merged_others_other : (pairs : List (List ℕ × List ℕ)) → AllByRecursion (λ k. is_triple_key k ≡ false) (keys_of (other_pairs pairs))
merged_others_other [] = tt
merged_others_other (pair ∷ pairs) = grind (arith, cases_Bool, merged_others_other pairs)

-- pairs none of which is a part stay
pub merged_others_same : (pairs : List (List ℕ × List ℕ)) → AllByRecursion (λ k. is_triple_key k ≡ false) (keys_of pairs)
    → other_pairs pairs ≡ pairs
merged_others_same [] none = refl
merged_others_same (pair ∷ pairs) none = rw none.0 (ap (λ (ps : List (List ℕ × List ℕ)). pair ∷ ps) (merged_others_same pairs none.1))

-- ---- pairs that are merged already

merged_key_at_middle : (P : List ℕ → Type 0) (xs ys : Pairs) (y : List ℕ × List ℕ) → AllByRecursion P (keys_of (xs ++ (y ∷ ys))) → P y.0
merged_key_at_middle P [] ys y all = all.0
merged_key_at_middle P (x ∷ xs) ys y all = merged_key_at_middle P xs ys y all.1

key_absent : (xs ys : Pairs) (y : List ℕ × List ℕ) → AreKeysApart (xs ++ (y ∷ ys))
    → AllByRecursion (λ k. bytes_eq y.0 k ≡ false) (keys_of xs)
key_absent [] ys y apart = tt
key_absent (x ∷ xs) ys y apart = (
  pair_key_bytes_turned x.0 y.0
      (merged_key_at_middle (λ k. bytes_eq x.0 k ≡ false) xs ys y (IsDistinct-head bytes_eq x.0 (keys_of (xs ++ (y ∷ ys))) apart)),
  key_absent xs ys y (IsDistinct-tail bytes_eq x.0 (keys_of (xs ++ (y ∷ ys))) apart),
)

all_pairs_kept : (done xs : Pairs) → AreKeysApart (done ++ xs) → insert_all bytes_eq done xs ≡ done ++ xs
all_pairs_kept done [] apart = sym (append-nil done)
all_pairs_kept done (x ∷ xs) apart = grind (arith, insert_entry-absent, key_absent, all_pairs_kept (done ++ (x ∷ [])) xs, append_assoc)

merged_lowered_same : (pairs : Pairs) → AreLowKeys pairs → merged_lowered pairs ≡ pairs
merged_lowered_same [] low = refl
merged_lowered_same (pair ∷ pairs) low = λ i. (low.0 i, pair.1) ∷ merged_lowered_same pairs low.1 i

pub merged_same : (pairs : List (List ℕ × List ℕ)) → AreLowKeys pairs → AreKeysApart pairs → pairs_merged pairs ≡ pairs
unfolding pairs_merged
merged_same pairs low apart = ap (insert_all bytes_eq []) (merged_lowered_same pairs low) ∙ all_pairs_kept [] pairs apart
