use Rattle.lint.proofs.Common.{◌≡◌, take}
use Rattle.lint.proofs.FateLaws.{FatesSaidSoFar}
use Rattle.lint.proofs.round_notes.note_rounds.Given as goal

-- the rounds of the sections so far are said
abbrev pub invariant-loop-section : goal.invariant-loop-section
invariant-loop-section l =
    (l.notes.last ≡ l.initial.notes.last)
    × FatesSaidSoFar l.initial.notes l.notes (take l.section-index l.sections) l.initial.config.params.items l.config.params.items
