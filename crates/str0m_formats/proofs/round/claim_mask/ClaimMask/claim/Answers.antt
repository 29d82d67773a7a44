use Rattle.str0m_formats.proofs.Common.{arith, or_lt}
use Rattle.str0m_formats.proofs.round.ClaimMaskBits.{bit_missing, bit_there, claimed_bit}
use Rattle.str0m_formats.proofs.round.claim_mask.ClaimMask.claim.Goals as goal

pub invariant_of-self : goal.invariant_of-self
invariant_of-self c = or_lt 128 c.bits-bits.result _ c.bits-bits.type_inv (omega arith)

pub returns-clause-answer : goal.returns-clause-answer
returns-clause-answer c = grind (arith, bit_missing, bit_there)

pub returns-clause-claimed : goal.returns-clause-claimed
returns-clause-claimed c = grind (arith, claimed_bit)
