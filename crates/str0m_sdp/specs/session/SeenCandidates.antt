-- Candidates, each once, and their keys.
use Rattle.std.specs.BTreeSet.{contains}
use Rattle.std.specs.List.{list_any}
use Rattle.std.specs.Prelude.{◌≡◌, List, map}
use Rattle.str0m_sdp.specs.Prelude.{Candidate}
use Rattle.str0m_sdp.specs.contracts.session.candidate_key.CandidateKeyOrd.TheImpl as order
use Rattle.str0m_sdp.specs.declared.session.candidate_key.CandidateKey.{CandidateKey}
use Rattle.str0m_sdp.specs.declared.session.seen_candidates.SeenCandidates.{SeenCandidates}
use Rattle.str0m_sdp.specs.session.CandidateKey.{IsKeyOf}
use Rattle.str0m_sdp.specs.session.Candidates.{same_candidate}

-- those that were seen, in order of first appearance
abbrev pub seen : SeenCandidates → List Candidate
seen candidates = map (λ c. c.now) candidates.once.items

-- a key is there exactly where an equal candidate was seen
abbrev pub AreCandidatesByKey : SeenCandidates → Type 0
AreCandidatesByKey candidates =
    (candidate : Candidate) (key : CandidateKey) → IsKeyOf candidate key
    → contains order.cmp-value.it candidates.keys key ≡ list_any (same_candidate candidate) (seen candidates)
