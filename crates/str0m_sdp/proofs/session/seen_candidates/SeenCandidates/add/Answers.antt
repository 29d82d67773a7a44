use Rattle.str0m_sdp.proofs.session.CandidateKeyLaws.{candidate_seen_more}
use Rattle.str0m_sdp.proofs.session.seen_candidates.SeenCandidates.add.Goals as goal

pub returns-in_ok-push-clause-by_key : goal.returns-in_ok-push-clause-by_key
returns-in_ok-push-clause-by_key c =
    candidate_seen_more c.args.self.now.keys c.insert.new.self c.args.self.now.once.items c.push.new.self.items c.args.candidate
    c.key_of.result
    c.key_of.ensures c.in_ok-insert.ensures.updates c.in_ok-push.ensures.items c.requires
