use Rattle.str0m_values.proofs.DigitValuesTable.{digit_values_at}
use Rattle.str0m_values.proofs.digit_values.value_of_digit.Goals as goal

pub returns : goal.returns
returns c = rw c.digit_values.ensures (digit_values_at c.args.byte c.ranges.byte.fits)
