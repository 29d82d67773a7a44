use Rattle.str0m_formats.proofs.Common.{sym, ◌∙◌}
use Rattle.str0m_formats.proofs.round.ClaimedSets.{claimed_with, free_claim-small}
use Rattle.str0m_formats.proofs.round.claims.Claims.take_free.Goals as goal

pub returns-clause-claimed : goal.returns-clause-claimed
returns-clause-claimed g c = claimed_with _ _ c.in_ok-pt.pt c.claim_once.result
    (free_claim-small _ _ (sym c.find_unclaimed.ensures ∙ c.in_ok-pt.was)).0 c.claim_once.ensures.answer c.claim_once.ensures.claimed
