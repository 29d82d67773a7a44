use Rattle.str0m_sdp.proofs.Common.{◌≡◌, insert_all}
use Rattle.str0m_sdp.proofs.session.distinct_candidates.add_all_candidates.Given as goal
use Rattle.str0m_sdp.specs.session.Candidates.{candidates_left, same_candidate}
use Rattle.str0m_sdp.specs.session.SeenCandidates.{AreCandidatesByKey, seen}

-- what was seen, with the candidates that are still to come
abbrev pub invariant-loop-candidate : goal.invariant-loop-candidate
invariant-loop-candidate l =
    (goal.iterator-loop-candidate).can_next l.candidate-iterator
    × (goal.iterator-loop-candidate).is_finite l.candidate-iterator
    × (insert_all same_candidate (seen l.found) (candidates_left l.candidate-iterator)
    ≡ insert_all same_candidate (seen l.initial.found) (candidates_left l.fn.candidates))
    × AreCandidatesByKey l.found
