use Rattle.lint.proofs.Common.{◌≡◌, length, Utf8, shadow}
use Rattle.lint.proofs.refused.note_refused_sections.Given as goal

abbrev pub invariant-loop-found : goal.invariant-loop-found
invariant-loop-found l = shadow (Utf8 l.rest) × (l.notes.last ≡ l.initial.notes.last)

abbrev pub decreases-loop-found : goal.decreases-loop-found
decreases-loop-found l = length l.rest
