-- The text of all pairs has that of each byte in its place.
use Rattle.std.proofs.lemmas.List.Elements.{All-cons, All-nil}
use Rattle.std.proofs.lemmas.Str.Ascii.{IsAscii-from_all}
use Rattle.std.specs.Prelude.{All, bytes_eq, drop, nat_lt, take}
use Rattle.std.specs.Str.{IsAscii}
use Rattle.str0m_values.proofs.Common.{◌≡◌, ◌&&◌, ◌<◌, ◌≤◌, ◌+◌, ◌-◌, ◌*◌, ℕ, zero, suc, Bool, true, List, [], ◌∷◌, length}
use Rattle.str0m_values.proofs.Common.{slice_range, arith, refl}
use Rattle.str0m_values.proofs.Common.{and_parts, bytes_eq-Decides, ltb-true}
use Rattle.str0m_values.specs.Fingerprint.{hex_pair}
use Rattle.str0m_values.specs.declared.fingerprint.TheConstants.{COLON_PAIRS}

-- the pairs of the bytes from the first on
abbrev are_colon_pairs : ℕ → List ℕ → Bool
are_colon_pairs first (a ∷ b ∷ c ∷ more) = bytes_eq (a ∷ b ∷ c ∷ []) (58 ∷ hex_pair first) && are_colon_pairs (suc first) more
are_colon_pairs first _ = true

colon_pair_there : (first : ℕ) (text : List ℕ) → are_colon_pairs first text ≡ true → (k at byte : ℕ) → at ≡ k * 3 → at + 3 ≤ length text
    → first + k ≡ byte → take 3 (drop at text) ≡ 58 ∷ hex_pair byte
colon_pair_there first [] h k at byte place le e = absurd (omega (arith, le))
colon_pair_there first (a ∷ []) h k at byte place le e = absurd (omega (arith, le))
colon_pair_there first (a ∷ b ∷ []) h k at byte place le e = absurd (omega (arith, le))
colon_pair_there first (a ∷ b ∷ c ∷ more) h zero zero byte place le e =
    let same : first ≡ byte = omega (arith, e) in
    rw same at ((bytes_eq-Decides (a ∷ b ∷ c ∷ []) (58 ∷ hex_pair first)).0 (and_parts _ _ h).0)
colon_pair_there first (a ∷ b ∷ c ∷ more) h zero (suc at) byte place le e = absurd (omega (arith, place))
colon_pair_there first (a ∷ b ∷ c ∷ more) h (suc k) zero byte place le e = absurd (omega (arith, place))
colon_pair_there first (a ∷ b ∷ c ∷ more) h (suc k) (suc zero) byte place le e = absurd (omega (arith, place))
colon_pair_there first (a ∷ b ∷ c ∷ more) h (suc k) (suc (suc zero)) byte place le e = absurd (omega (arith, place))
colon_pair_there first (a ∷ b ∷ c ∷ more) h (suc k) (suc (suc (suc at))) byte place le e =
    colon_pair_there (suc first) more (and_parts _ _ h).1 k at byte (omega (arith, place)) (omega (arith, le)) (omega (arith, e))

pub colon_pair_at : (byte : ℕ) → byte < 256 → slice_range COLON_PAIRS.now (byte * 3) (byte * 3 + 3) ≡ 58 ∷ hex_pair byte
colon_pair_at byte lt =
    let three : byte * 3 + 3 - byte * 3 ≡ 3 = omega arith in
    rw three (colon_pair_there 0 COLON_PAIRS.now refl byte (byte * 3) byte refl (omega (arith, lt)) (omega arith))

abbrev all_below : List ℕ → Bool
all_below [] = true
all_below (x ∷ xs) = nat_lt x 128 && all_below xs

below_all : (bs : List ℕ) → all_below bs ≡ true → All (λ b. b < 128) bs
below_all [] h = All-nil (λ b. b < 128)
below_all (x ∷ xs) h =
    let both = and_parts (nat_lt x 128) (all_below xs) h in
    All-cons (λ b. b < 128) x xs (ltb-true x 128 both.0) (below_all xs both.1)

pub colon_pairs_ascii : IsAscii COLON_PAIRS.now
colon_pairs_ascii = IsAscii-from_all COLON_PAIRS.now (below_all COLON_PAIRS.now refl)

pub length_of_colon_pairs : length COLON_PAIRS.now ≡ 768
length_of_colon_pairs = refl
