-- The bytes of a hash, one more.
use Rattle.std.proofs.lemmas.Grind.{common_steps}
use Rattle.std.specs.Prelude.{◌≢◌, Some, drop, get_or}
use Rattle.str0m_signal.proofs.Common.{◌≡◌, ◌<◌, ◌++◌, ◌∷◌, [], ℕ, List, length, arith}
use Rattle.str0m_signal.proofs.line.PartLaws.{part_cut_shorter, part_more, part_with_front}
use Rattle.str0m_signal.specs.form.Fingerprint.{IsHashPairBefore, hash_read}
use Rattle.str0m_signal.specs.line.WordsReading.{hex_pair_read}

pub hash_more_shorter : (rest : List ℕ) (byte : ℕ) (more : List ℕ) → IsHashPairBefore rest byte more → length more < length rest
hash_more_shorter rest byte more one = part_cut_shorter 58 rest one.0 more one.1

-- one more byte
pub hash_more : (text front rest : List ℕ) (byte : ℕ) (more : List ℕ) → IsHashPairBefore rest byte more
    → part_with_front front (hash_read rest) ≡ hash_read text
    → part_with_front (front ++ byte ∷ []) (hash_read more) ≡ hash_read text
hash_more text front rest byte more one so_far = part_more 58 hex_pair_read text front rest one.0 more byte one.1 one.2 so_far

-- two digits aren't the `:` behind them
hash_digits_apart : (high low byte : ℕ) → hex_pair_read (high ∷ low ∷ []) ≡ Some byte → (high ≢ 58) × (low ≢ 58)
hash_digits_apart high low byte h = (λ e. grind (arith, common_steps, e, h), λ e. grind (arith, common_steps, e, h))

pub hash_pair_cut : (text : List ℕ) (byte : ℕ) → 2 < length text → get_or text 2 0 ≡ 58
    → hex_pair_read (get_or text 0 0 ∷ get_or text 1 0 ∷ []) ≡ Some byte → IsHashPairBefore text byte (drop 3 text)
hash_pair_cut [] byte long is h = absurd (omega (arith, long))
hash_pair_cut (high ∷ []) byte long is h = absurd (omega (arith, long))
hash_pair_cut (high ∷ low ∷ []) byte long is h = absurd (omega (arith, long))
hash_pair_cut (high ∷ low ∷ colon ∷ rest) byte long is h =
    (high ∷ low ∷ [], grind (arith, common_steps, is, hash_digits_apart high low byte h), h)
