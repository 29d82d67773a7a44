-- The candidates of a whole description, each once.
use Rattle.std.specs.Prelude.{◌≢◌, ◌↔◌, List, map, AllPairs, Contains}
use Rattle.std.specs.Vec.Iter.{into_iter_items}
use Rattle.str0m_sdp.specs.Prelude.{Candidate}
use Rattle.str0m_sdp.specs.declared.session.distinct_candidates.DistinctCandidates.{DistinctCandidates}

-- those that an iterator is still to give
abbrev pub distinct_left : DistinctCandidates → List Candidate
distinct_left candidates = map (λ c. c.now) (into_iter_items candidates.left)

-- no two of them are equal, and a value is among them exactly where it stands in the whole list
pub record IsEachCandidateOnce {X : Type 0} (all once : List X) : Type 0 where
  pub apart : AllPairs ◌≢◌ once
  pub same_values : (x : X) → Contains once x ↔ Contains all x
