use Rattle.std.proofs.lemmas.Bool.{OnTrue_from, OnFalse_from}
use Rattle.str0m_formats.proofs.round.ClaimedSets.{claimed_with, claimed_without, claimed_answer_small}
use Rattle.str0m_formats.proofs.round.claims.Claims.claim.Goals as goal

pub returns-clause-answer : goal.returns-clause-answer
returns-clause-answer g c = claimed_answer_small _ _ c.args.pt c.requires c.claim_once.ensures.answer

pub returns-clause-yes : goal.returns-clause-yes
returns-clause-yes g c = OnTrue_from _ _
    (λ _. claimed_with _ _ c.args.pt c.claim_once.result c.requires c.claim_once.ensures.answer c.claim_once.ensures.claimed)

pub returns-clause-no : goal.returns-clause-no
returns-clause-no g c = OnFalse_from _ _ (λ no. claimed_without _ _ c.args.pt c.claim_once.result no c.claim_once.ensures.claimed)
