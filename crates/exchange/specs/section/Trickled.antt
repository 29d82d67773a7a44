-- A candidate as it is trickled (RFC 8838; RFC 8839, section 5.1).
use Rattle.exchange.specs.Prelude.{Candidate, FirstLine, IsCandidateLine}
use Rattle.std.specs.List.{starts_with}
use Rattle.std.specs.Prelude.{ℕ, List, [], ◌++◌, codes, nat_eq, if◌then◌else◌}

-- the text as a line of a description, which begins with `a=`
abbrev pub trickled_as_line : List ℕ → List ℕ
trickled_as_line text = if starts_with nat_eq text (codes "a=") then text else codes "a=" ++ text

-- the text is one line, which is the candidate's, and nothing is left
abbrev pub IsTrickled : List ℕ → Candidate → Type 0
IsTrickled text candidate = FirstLine IsCandidateLine (trickled_as_line text) (candidate, [])
