use Rattle.lint.proofs.Common.{max, ap, ◌∙◌}
use Rattle.lint.proofs.found.findings.Goals as goal

pub returns-clause-refused : goal.returns-clause-refused
returns-clause-refused c =
    let last = c.new-notes.ensures.last ∙ ap (max 1) c.line_count.ensures in
    let said = c.in_ok-note_found.ensures.said c.new-notes.ensures.none last c.in_ok-found.ensures.one c.in_ok-found.ensures.read in
    rw c.into_findings-findings.ensures.all said.refused

pub returns-clause-unread : goal.returns-clause-unread
returns-clause-unread c =
    let last = c.new-notes.ensures.last ∙ ap (max 1) c.line_count.ensures in
    let said = c.in_ok-note_found.ensures.said c.new-notes.ensures.none last c.in_ok-found.ensures.one c.in_ok-found.ensures.read in
    rw c.into_findings-findings.ensures.all said.unread

pub returns-clause-kept : goal.returns-clause-kept
returns-clause-kept c =
    let last = c.new-notes.ensures.last ∙ ap (max 1) c.line_count.ensures in
    let said = c.in_ok-note_found.ensures.said c.new-notes.ensures.none last c.in_ok-found.ensures.one c.in_ok-found.ensures.read in
    rw c.into_findings-findings.ensures.all said.kept_are
