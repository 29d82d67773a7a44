use Rattle.str0m_values.proofs.Common.{refl}
use Rattle.str0m_values.proofs.h266.H266ProfileTierLevel.from_fmtp.Goals as goal

pub returns-clause-absent : goal.returns-clause-absent
returns-clause-absent c = λ p t l. c.of_texts.ensures.only _ (rw (p, t, l) (record { profile_is = refl; tier_is = refl; level_is = refl }))
