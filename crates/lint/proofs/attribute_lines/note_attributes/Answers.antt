use Rattle.lint.proofs.AttributeLinesLaws.{attribute_line_has_number, one_line_further, without_lines}
use Rattle.lint.proofs.Common.{◌≡◌, ◌+◌, ◌∙◌, arith, rules}
use Rattle.lint.proofs.attribute_lines.note_attributes.Goals as goal
use Rattle.lint.specs.Findings.{NotesLine}
use Rattle.lint.specs.Lines.{IsLineNumber}

pub loop-line-preserved : goal.loop-line-preserved
loop-line-preserved c =
    let now = c.loop-line in
    let next = c.note_line.new.notes in (
      search rules,
      c.note_line.ensures.last ∙ now.invariant.1,
      λ fits.
          let so_far = now.invariant.2 fits in
          let numbered = attribute_line_has_number c.args.notes.now c.args.before c.args.text.now c.args.marks.now now.notes now.passed
          now.rest.now now.left.now
          c.in-Some.line.now c.in-Some.after.now fits so_far c.in-Some.ensures.line in
          let is : c.saturating_add-passed.result ≡ now.passed + 1 = omega (arith, numbered.1, now.notes.bounded) in
          let number : IsLineNumber now.notes.last c.saturating_add-passed.result = rw is numbered in
          let notes : NotesLine (now.passed + 1) c.in-Some.line.now now.left.now c.in_ok-left.left.now now.notes next =
          rw is at (c.in_ok-left.ensures.notes number) in
          rw is (one_line_further c.args.notes.now c.args.before c.args.text.now c.args.marks.now now.notes next now.passed now.rest.now
          now.left.now c.in_ok-left.left.now c.in-Some.line.now c.in-Some.after.now so_far c.in-Some.ensures.line notes),
    )

pub returns-clause-keeps : goal.returns-clause-keeps
returns-clause-keeps c = λ fits.
    let now = c.loop-line in
    without_lines c.args.notes.now c.args.before c.args.text.now c.args.marks.now now.notes now.passed now.rest.now now.left.now
    (now.invariant.2 fits) c.in_default.ensures.line
