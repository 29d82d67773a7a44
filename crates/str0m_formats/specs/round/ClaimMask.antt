-- A number as a set of payload types: bit t stands for the type t.
use Rattle.std.specs.Int.{bit_at}
use Rattle.std.specs.List.{range_with_len}
use Rattle.std.specs.Prelude.{◌==◌, ℕ, Option, find}
use Rattle.str0m_formats.specs.round.Claimed.{TypeSet}

abbrev pub bit_set : ℕ → TypeSet
bit_set bits t = bit_at bits t == 1

-- the least bit below 128 that is set
unfoldable pub least_claim_bit : ℕ → Option ℕ
least_claim_bit bits = find (bit_set bits) (range_with_len 0 128)
