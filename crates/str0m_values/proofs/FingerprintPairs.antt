-- The two hex digits that are printed for a byte, and bytes so printed with `:` between them.
use Rattle.std.proofs.lemmas.List.Elements.{All-head, All-tail}
use Rattle.std.proofs.lemmas.List.Splits.{slice_split_at, slice_split_none}
use Rattle.str0m_values.proofs.Common.{◌≡◌, ◌≢◌, ◌==◌, ◌<◌, ◌+◌, ◌*◌, ℕ, true, false, List, [], ◌∷◌, ◌++◌, All, map, arith, sym, append-nil}
use Rattle.str0m_values.proofs.Common.{subst, digit_value, AllZip, flat_map, digit_glyph, slice_split}
use Rattle.str0m_values.specs.Fingerprint.{hex_pair, pairs_text, hash_pieces, IsHexByte}

-- a printed digit is worth what it was printed for
pub hash_glyph_value : (d : ℕ) → d < 16 → digit_value (digit_glyph true d) ≡ d
hash_glyph_value d lt = grind arith

-- so it is no character that isn't a digit
hash_glyph_other : (c d : ℕ) → digit_value c ≡ 36 → d < 16 → digit_glyph true d ≢ c
hash_glyph_other c d far lt = grind arith

-- two digits read as the byte that they write
pub two_digits_read : (a b m n byte : ℕ) → a ≢ 43 → digit_value a ≡ m → digit_value b ≡ n → m < 16 → n < 16 → m * 16 + n ≡ byte
    → IsHexByte (a ∷ b ∷ []) byte
two_digits_read a b m n byte plus am bn small low sum = grind arith

-- the pair reads as its byte
pub pair_reads : (byte : ℕ) → byte < 256 → IsHexByte (hex_pair byte) byte
pair_reads byte lt = grind (arith, hash_glyph_other, hash_glyph_value)

pair_lacks : (byte : ℕ) → byte < 256 → All (λ c. (c == 58) ≡ false) (hex_pair byte)
pair_lacks byte lt = grind arith

-- texts that hold no `:`, with one before each but the first, are cut into themselves
fingerprint_hash_pieces_joined : (text : ℕ → List ℕ) (F : ℕ → Type 0) → ((x : ℕ) → F x → All (λ c. (c == 58) ≡ false) (text x))
    → (first : ℕ) (more : List ℕ)
    → F first → All F more → slice_split (λ b. b == 58) (text first ++ flat_map (λ x. 58 ∷ text x) more) ≡ text first ∷ map text more
fingerprint_hash_pieces_joined text F lacks first [] h all = grind (arith, append-nil, slice_split_none)
fingerprint_hash_pieces_joined text F lacks first (next ∷ more) h all =
    grind (
      arith,
      slice_split_at,
      fingerprint_hash_pieces_joined text F lacks next more (All-head F next more all)
          (All-tail F next more all),
    )

hex_pairs_read : (bytes : List ℕ) → All (λ byte. byte < 256) bytes → AllZip IsHexByte (map hex_pair bytes) bytes
hex_pairs_read [] all = tt
hex_pairs_read (byte ∷ more) all =
    let P : ℕ → Type 0 = λ byte. byte < 256 in
    (pair_reads byte (All-head P byte more all), hex_pairs_read more (All-tail P byte more all))

-- printed bytes read as themselves
pub printed_hash_read : (first : ℕ) (more : List ℕ) → All (λ byte. byte < 256) (first ∷ more)
    → AllZip IsHexByte (hash_pieces (pairs_text (first ∷ more))) (first ∷ more)
printed_hash_read first more all =
    let P : ℕ → Type 0 = λ byte. byte < 256 in
    subst (λ (pieces : List (List ℕ)). AllZip IsHexByte pieces (first ∷ more))
    (sym (fingerprint_hash_pieces_joined hex_pair P pair_lacks first more (All-head P first more all) (All-tail P first more all)))
    (hex_pairs_read (first ∷ more) all)
