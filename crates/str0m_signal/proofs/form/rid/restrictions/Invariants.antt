use Rattle.str0m_signal.proofs.Common.{◌≡◌, length, Utf8, shadow}
use Rattle.str0m_signal.proofs.form.rid.restrictions.Given as goal
use Rattle.str0m_signal.proofs.line.PairsOneByOne.{LeftPairs}
use Rattle.str0m_signal.proofs.line.PartLaws.{part_with_front}
use Rattle.str0m_signal.specs.form.RidReading.{restriction_read, restrictions_read}

-- the restrictions so far and those of the rest are those of the text
abbrev pub invariant-loop-key : goal.invariant-loop-key
invariant-loop-key l = shadow (Utf8 l.rest) × LeftPairs restriction_read
    (λ o. part_with_front l.pairs.items o ≡ restrictions_read l.fn.text) l.rest

abbrev pub decreases-loop-key : goal.decreases-loop-key
decreases-loop-key l = length l.rest
