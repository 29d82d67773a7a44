-- What stands at the front of a text, as functions.
use Rattle.std.specs.Prelude.{ℕ, List, Option, Some}
use Rattle.str0m_signal.specs.Prelude.{before, cut, num, strip, ◌>>=◌}

-- the number before the first space, and what follows the space
abbrev pub number_and_rest_read : ℕ → List ℕ → Option (ℕ × List ℕ)
number_and_rest_read limit text = cut 32 text >>= λ parts. num limit parts.0 >>= λ n. Some (n, parts.1)

-- the number before the first space or the end, and what stands from there on
abbrev pub number_in_front_read : ℕ → List ℕ → Option (ℕ × List ℕ)
number_in_front_read limit text = num limit (before 32 text) >>= λ n. strip (before 32 text) text >>= λ more. Some (n, more)
