use Rattle.lint.proofs.Common.{◌≡◌, ◌+◌, ◌≤◌, length, Utf8, shadow, lines_of}
use Rattle.lint.proofs.lines.line_count.Given as goal

-- the lines so far and those of the rest are those of the text
abbrev pub invariant-loop-after : goal.invariant-loop-after
invariant-loop-after l =
    shadow (Utf8 l.rest) × (l.count + length (lines_of l.rest) ≡ length (lines_of l.fn.text)) × (l.count + length l.rest ≤ length l.fn.text)

abbrev pub decreases-loop-after : goal.decreases-loop-after
decreases-loop-after l = length l.rest
