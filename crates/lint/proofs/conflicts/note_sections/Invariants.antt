use Rattle.lint.proofs.Common.{◌≡◌}
use Rattle.lint.proofs.conflicts.note_sections.Given as goal
use Rattle.lint.specs.Findings.{AddsOtherFindings}

abbrev pub invariant-loop-line : goal.invariant-loop-line
invariant-loop-line l = (l.notes.last ≡ l.initial.notes.last) × AddsOtherFindings l.initial.notes l.notes
