use Rattle.lint.proofs.Common.{length, Utf8, shadow}
use Rattle.lint.proofs.row_places.next_place.Given as goal

abbrev pub invariant-loop-line : goal.invariant-loop-line
invariant-loop-line l = shadow (Utf8 l.rest)

abbrev pub decreases-loop-line : goal.decreases-loop-line
decreases-loop-line l = length l.rest
