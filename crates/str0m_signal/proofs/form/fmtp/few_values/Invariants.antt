use Rattle.str0m_signal.proofs.Common.{◌≡◌, length, Utf8, shadow, pair_texts}
use Rattle.str0m_signal.proofs.form.fmtp.few_values.Given as goal
use Rattle.str0m_signal.proofs.line.PairsOneByOne.{LeftPairs}
use Rattle.str0m_signal.proofs.line.PartLaws.{part_with_front}
use Rattle.str0m_signal.specs.form.FmtpReading.{pair_read, pairs_read}

-- the pairs so far and those of the rest are those of the text
abbrev pub invariant-loop-key : goal.invariant-loop-key
invariant-loop-key l = shadow (Utf8 l.rest) × LeftPairs pair_read (λ o. part_with_front (pair_texts l.few.items) o ≡ pairs_read l.fn.text)
    l.rest

abbrev pub decreases-loop-key : goal.decreases-loop-key
decreases-loop-key l = length l.rest
