use Rattle.str0m_signal.proofs.Common.{◌≡◌, length, Utf8, shadow, num}
use Rattle.str0m_signal.proofs.line.PartLaws.{part_with_front}
use Rattle.str0m_signal.proofs.line.heads.few_types.Given as goal
use Rattle.str0m_signal.specs.form.FormReading.{parted_read}

-- the types so far and those of the rest are those of the text
abbrev pub invariant-loop-number : goal.invariant-loop-number
invariant-loop-number l = shadow (Utf8 l.rest)
    × (part_with_front l.few.items (parted_read 32 (num 255) l.rest) ≡ parted_read 32 (num 255) l.fn.text)

abbrev pub decreases-loop-number : goal.decreases-loop-number
decreases-loop-number l = length l.rest
