use Rattle.str0m_signal.proofs.Common.{length, Utf8, shadow}
use Rattle.str0m_signal.proofs.line.attributes.attribute_run.Given as goal
use Rattle.str0m_signal.specs.line.Lines.{Chain}
use Rattle.str0m_signal.specs.line.LinesReading.{lines_of, read_attribute, ReadsTo}

-- the attributes so far are those of the lines before the rest
abbrev pub invariant-loop-content : goal.invariant-loop-content
invariant-loop-content g l =
    shadow (Utf8 l.rest) × Chain (ReadsTo (read_attribute g.A.Attribute.reading)) (lines_of l.fn.text) l.attributes.items (lines_of l.rest)

abbrev pub decreases-loop-content : goal.decreases-loop-content
decreases-loop-content g l = length (lines_of l.rest)
