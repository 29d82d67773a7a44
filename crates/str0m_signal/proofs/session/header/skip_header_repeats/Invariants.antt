use Rattle.str0m_signal.proofs.Common.{List, ℕ, length, Utf8, shadow, codes}
use Rattle.str0m_signal.proofs.session.header.skip_header_repeats.Given as goal
use Rattle.str0m_signal.specs.line.Lines.{Chain, OneLine}
use Rattle.str0m_signal.specs.line.LinesReading.{lines_of}
use Rattle.str0m_signal.specs.session.Section.{IsSessionField}

-- the lines before the rest are such fields
abbrev pub invariant-loop-after : goal.invariant-loop-after
invariant-loop-after l =
    shadow (Utf8 l.rest) × ((texts : List (List ℕ)) × Chain (OneLine (IsSessionField (codes "r="))) (lines_of l.fn.text) texts
    (lines_of l.rest))

abbrev pub decreases-loop-after : goal.decreases-loop-after
decreases-loop-after l = length (lines_of l.rest)
