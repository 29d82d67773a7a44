use Rattle.str0m_sdp.proofs.Common.{ℕ, ◌≡◌, ◌<◌, rules, subst, sym}
use Rattle.str0m_sdp.proofs.attribute.RandomMsidLaws.{msid_letter_of-ascii}
use Rattle.str0m_sdp.proofs.attribute.random_msid.msid_letter.Goals as goal
use Rattle.str0m_sdp.specs.attribute.RandomMsid.{msid_letter_of}

pub returns-clause-value : goal.returns-clause-value
unfolding msid_letter_of
returns-clause-value c = search rules

pub returns-clause-ascii : goal.returns-clause-ascii
unfolding msid_letter_of
returns-clause-ascii c =
    let same : c.from.result ≡ msid_letter_of c.args.word = search rules in
    subst (λ (n : ℕ). n < 128) (sym same) (msid_letter_of-ascii c.args.word)
