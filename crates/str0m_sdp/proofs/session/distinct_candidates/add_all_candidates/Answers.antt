use Rattle.str0m_sdp.proofs.Common.{◌∙◌}
use Rattle.str0m_sdp.proofs.session.DistinctCandidatesLaws.{candidates_one_put}
use Rattle.str0m_sdp.proofs.session.distinct_candidates.add_all_candidates.Goals as goal
use Rattle.str0m_sdp.specs.session.Candidates.{same_candidate}

pub loop-candidate-preserved : goal.loop-candidate-preserved
loop-candidate-preserved c = (
  tt,
  tt,
  candidates_one_put same_candidate _ _ _ _ _ c.in_ok-add.ensures.seen c.in-Some.ensures.steps ∙ c.loop-candidate.invariant.2,
  c.in_ok-add.ensures.by_key,
)
