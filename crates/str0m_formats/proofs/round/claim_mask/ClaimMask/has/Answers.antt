use Rattle.str0m_formats.proofs.Common.{arith, le-ltb}
use Rattle.str0m_formats.proofs.round.ClaimMaskBits.{no_bit}
use Rattle.str0m_formats.proofs.round.claim_mask.ClaimMask.has.Goals as goal

pub returns-else-value-lt128 : goal.returns-else-value-lt128
returns-else-value-lt128 c = grind (arith, le-ltb, no_bit)
