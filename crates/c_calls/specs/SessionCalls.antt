-- The name of a section.
use Rattle.c_calls.specs.Prelude.{MediaLine, first, mid_of}
use Rattle.std.specs.Prelude.{ℕ, List, [], Option, filter_map, unwrap_or}

-- by the first attribute that says one (RFC 5888, section 4)
abbrev pub session_mid_named : MediaLine → Option (List ℕ)
session_mid_named m = first (filter_map mid_of m.attrs)

-- nothing where none does
abbrev pub session_mid_or_empty : MediaLine → List ℕ
session_mid_or_empty m = unwrap_or (session_mid_named m) []
