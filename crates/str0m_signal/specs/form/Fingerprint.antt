-- The bytes of a hash, one by one.
use Rattle.std.specs.Prelude.{◌≡◌, ℕ, List, Option, Some}
use Rattle.str0m_signal.specs.Prelude.{cut}
use Rattle.str0m_signal.specs.form.FormReading.{parted_read}
use Rattle.str0m_signal.specs.line.WordsReading.{hex_pair_read}

-- what pairs of hex digits with `:` between each two are read as
abbrev pub hash_read : List ℕ → Option (List ℕ)
hash_read = parted_read 58 hex_pair_read

-- two hex digits before the first `:`, their byte, and what follows
abbrev pub IsHashPairBefore : List ℕ → ℕ → List ℕ → Type 0
IsHashPairBefore text byte more = (pair : List ℕ) × (cut 58 text ≡ Some (pair, more)) × (hex_pair_read pair ≡ Some byte)
