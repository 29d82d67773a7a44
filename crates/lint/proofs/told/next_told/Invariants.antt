use Rattle.lint.proofs.Common.{◌≡◌, ◌≤◌, length, Utf8, shadow}
use Rattle.lint.proofs.told.next_told.Given as goal
use Rattle.lint.specs.Told.{told_of}

-- the rest says what the text says
abbrev pub invariant-loop-line : goal.invariant-loop-line
invariant-loop-line l = shadow (Utf8 l.rest) × (told_of l.rest ≡ told_of l.fn.text) × (length l.rest ≤ length l.fn.text)

abbrev pub decreases-loop-line : goal.decreases-loop-line
decreases-loop-line l = length l.rest
