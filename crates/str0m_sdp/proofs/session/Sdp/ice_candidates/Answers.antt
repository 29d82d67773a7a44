use Rattle.str0m_sdp.proofs.Common.{sym, subst, decided}
use Rattle.str0m_sdp.proofs.session.CandidateEqual.{candidate_Decides}
use Rattle.str0m_sdp.proofs.session.DistinctCandidatesLaws.{candidates_all_put, each_candidate_once}
use Rattle.str0m_sdp.proofs.session.Sdp.ice_candidates.Goals as goal
use Rattle.str0m_sdp.specs.session.Candidates.{section_candidates, all_candidates, same_candidate}
use Rattle.str0m_sdp.specs.session.DistinctCandidates.{IsEachCandidateOnce}
use Rattle.str0m_sdp.specs.session.SeenCandidates.{seen}

pub returns-clause-distinct : goal.returns-clause-distinct
returns-clause-distinct c =
    candidates_all_put same_candidate (decided same_candidate candidate_Decides) section_candidates _ c.loop-line.line-index
    (seen c.loop-line.found) _
    (all_candidates c.args.self.now) c.loop-line-test.false c.into_iter.ensures c.loop-line.invariant.0

pub returns-clause-once : goal.returns-clause-once
returns-clause-once c =
    let all = all_candidates c.args.self.now in
    subst (IsEachCandidateOnce all) (sym (returns-clause-distinct c)) (each_candidate_once same_candidate candidate_Decides all)
