use Rattle.str0m_formats.proofs.Common.{Some, sym, ap, ◌∙◌, arith}
use Rattle.str0m_formats.proofs.round.ClaimMaskBits.{least_claim_bit-zero, least_claim_bit-trailing}
use Rattle.str0m_formats.proofs.round.claim_mask.least_type.Goals as goal
use Rattle.str0m_formats.specs.round.ClaimMask.{least_claim_bit}

pub returns-then-bits-eq0 : goal.returns-then-bits-eq0
returns-then-bits-eq0 c = sym (ap least_claim_bit c.if-bits-eq0.true ∙ least_claim_bit-zero)

pub returns-else-bits-eq0 : goal.returns-else-bits-eq0
returns-else-bits-eq0 c = ap (λ x. Some x) c.new_with_value.ensures ∙ least_claim_bit-trailing c.args.bits (omega arith) c.ranges.bits.fits
