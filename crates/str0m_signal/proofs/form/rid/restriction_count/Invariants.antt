use Rattle.str0m_signal.proofs.Common.{◌≡◌, length, is_some, Utf8, shadow}
use Rattle.str0m_signal.proofs.form.rid.restriction_count.Given as goal
use Rattle.str0m_signal.proofs.line.PairsOneByOne.{LeftPairs}
use Rattle.str0m_signal.specs.form.RidReading.{restriction_read, restrictions_read}

-- the rest is restrictions where the text is
abbrev pub invariant-loop-next : goal.invariant-loop-next
invariant-loop-next l = shadow (Utf8 l.rest) × LeftPairs restriction_read (λ o. is_some o ≡ is_some (restrictions_read l.fn.text)) l.rest

abbrev pub decreases-loop-next : goal.decreases-loop-next
decreases-loop-next l = length l.rest
