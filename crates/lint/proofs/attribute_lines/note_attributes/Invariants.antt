use Rattle.lint.proofs.AttributeLinesLaws.{AttributesSoFar}
use Rattle.lint.proofs.Common.{◌≡◌, ◌+◌, ◌≤◌, length, Utf8, shadow, lines_of}
use Rattle.lint.proofs.attribute_lines.note_attributes.Given as goal

-- what is said so far, and what is to be said of the rest, is what is to be said of the text
abbrev pub invariant-loop-line : goal.invariant-loop-line
invariant-loop-line l =
    shadow (Utf8 l.rest) × (l.notes.last ≡ l.initial.notes.last) × (l.fn.before + length (lines_of l.fn.text) ≤ l.initial.notes.last
    → AttributesSoFar l.initial.notes l.fn.before l.fn.text l.fn.marks l.notes l.passed l.rest l.left)

abbrev pub decreases-loop-line : goal.decreases-loop-line
decreases-loop-line l = length l.rest
