use Rattle.str0m_signal.proofs.Common.{◌≡◌, length, Utf8, shadow, code}
use Rattle.str0m_signal.proofs.line.PartLaws.{part_with_front}
use Rattle.str0m_signal.proofs.line.parts.read_parts.Given as goal
use Rattle.str0m_signal.specs.form.FormReading.{parted_read}

-- the items so far and those of the rest are those of the text
abbrev pub invariant-loop-part : goal.invariant-loop-part
invariant-loop-part g l = shadow (Utf8 l.rest)
    × (part_with_front l.parts.items (parted_read (code l.fn.at) g.T.Part.reading l.rest)
    ≡ parted_read (code l.fn.at) g.T.Part.reading l.fn.text)

abbrev pub decreases-loop-part : goal.decreases-loop-part
decreases-loop-part g l = length l.rest
