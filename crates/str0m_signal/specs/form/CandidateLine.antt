-- The line of a candidate (RFC 8839, section 5.1).
use Rattle.std.specs.Prelude.{ℕ, List}
use Rattle.str0m_signal.specs.Prelude.{Candidate, IsCandidateText}
use Rattle.str0m_signal.specs.line.Lines.{IsAttributeLine}

abbrev pub IsCandidateLine : List ℕ → Candidate → Type 0
IsCandidateLine = IsAttributeLine IsCandidateText
