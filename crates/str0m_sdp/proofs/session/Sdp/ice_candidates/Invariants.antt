use Rattle.str0m_sdp.proofs.Common.{◌≡◌, [], drop, flat_map, insert_all}
use Rattle.str0m_sdp.proofs.session.Sdp.ice_candidates.Given as goal
use Rattle.str0m_sdp.specs.session.Candidates.{section_candidates, all_candidates, same_candidate}
use Rattle.str0m_sdp.specs.session.SeenCandidates.{AreCandidatesByKey, seen}

-- what was seen, with the candidates of the sections that are still to come
abbrev pub invariant-loop-line : goal.invariant-loop-line
invariant-loop-line l =
    (insert_all same_candidate (seen l.found) (flat_map section_candidates (drop l.line-index l.line-items))
    ≡ insert_all same_candidate [] (all_candidates l.fn.self))
    × AreCandidatesByKey l.found
