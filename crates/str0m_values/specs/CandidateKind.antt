-- The words for the kinds of candidates (RFC 8839 section 5.1).
use Rattle.std.specs.Prelude.{◌≡◌, ℕ, List, codes}
use Rattle.str0m_values.specs.declared.candidate_kind.CandidateKind.{CandidateKind}
use Rattle.str0m_values.specs.declared.candidate_kind.CandidateKind.TheVariants.{Host, PeerReflexive, ServerReflexive, Relayed}

abbrev pub kind_text : CandidateKind → List ℕ
kind_text Host = codes "host"
kind_text PeerReflexive = codes "prflx"
kind_text ServerReflexive = codes "srflx"
kind_text Relayed = codes "relay"

abbrev pub IsKindText : List ℕ → CandidateKind → Type 0
IsKindText word kind = word ≡ kind_text kind
