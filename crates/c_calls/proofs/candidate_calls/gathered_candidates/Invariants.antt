use Rattle.c_calls.proofs.candidate_calls.gathered_candidates.Given as goal
use Rattle.c_calls.specs.TransportCalls.{lent_candidates}
use Rattle.std.specs.Prelude.{◌≡◌, ◌++◌}
use Rattle.str0m_sdp.specs.Common.{distinct}
use Rattle.str0m_sdp.specs.session.Candidates.{all_candidates, same_candidate}
use Rattle.str0m_sdp.specs.session.DistinctCandidates.{distinct_left}

-- those so far, with those that are still to come
abbrev pub invariant-loop-candidate : goal.invariant-loop-candidate
invariant-loop-candidate l =
    (goal.iterator-loop-candidate).can_next l.candidate-iterator
    × (goal.iterator-loop-candidate).is_finite l.candidate-iterator
    × (lent_candidates l.found.items ++ distinct_left l.candidate-iterator ≡ distinct same_candidate (all_candidates l.sdp))
