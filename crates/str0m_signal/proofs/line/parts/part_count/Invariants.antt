use Rattle.str0m_signal.proofs.Common.{◌≡◌, length, is_some, Utf8, shadow, code}
use Rattle.str0m_signal.proofs.line.parts.part_count.Given as goal
use Rattle.str0m_signal.specs.form.FormReading.{parted_read}

-- the rest is items where the text is
abbrev pub invariant-loop-part : goal.invariant-loop-part
invariant-loop-part g l = shadow (Utf8 l.rest)
    × (is_some (parted_read (code l.fn.at) g.T.Part.reading l.rest) ≡ is_some (parted_read (code l.fn.at) g.T.Part.reading l.fn.text))

abbrev pub decreases-loop-part : goal.decreases-loop-part
decreases-loop-part g l = length l.rest
