use Rattle.lint.proofs.Common.{◌≡◌}
use Rattle.lint.proofs.conflicts.note_section.Given as goal
use Rattle.lint.specs.Findings.{AddsOtherFindings}

abbrev pub invariant-loop-i : goal.invariant-loop-i
invariant-loop-i l = (l.notes.last ≡ l.initial.notes.last) × AddsOtherFindings l.initial.notes l.notes
