use Rattle.lint.proofs.Common.{◌≡◌, filter_map, take}
use Rattle.lint.proofs.round_notes.note_rows.Given as goal
use Rattle.lint.specs.Fates.{AddsFates, fate}

-- the fates of the rows so far are said
abbrev pub invariant-loop-theirs : goal.invariant-loop-theirs
invariant-loop-theirs l =
    (l.notes.last ≡ l.initial.notes.last)
    × AddsFates (filter_map (fate l.ran.before.now l.ran.receives l.ran.after.now l.ran.outcome l.partners)
    (take l.theirs-index l.theirs-items)) l.initial.notes l.notes
