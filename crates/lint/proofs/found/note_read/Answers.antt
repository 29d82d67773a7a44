use Rattle.lint.proofs.Common.{◌≡◌, ◌+◌, ◌≤◌, [], Bool, List, map, length, ap, ◌∙◌, sym, subst, arith, rules, on_ok_weaker, sdp_text}
use Rattle.lint.proofs.Common.{lines_of}
use Rattle.lint.proofs.FindingsLaws.{finding_rest_is_empty, first_unread, finding_same_as_printed, some_lines, tells_rest, tells_whole}
use Rattle.lint.proofs.FindingsLaws.{unread_numbered}
use Rattle.lint.proofs.found.note_read.Goals as goal
use Rattle.lint.specs.Findings.{KeepsUnread}
use Rattle.lint.specs.Kept.{is_unread, kept_at, kept_flags}
use Rattle.lint.specs.Lines.{IsLineNumber, attribute_numbers}

pub returns-then-is_empty-clause-tells : goal.returns-then-is_empty-clause-tells
returns-then-is_empty-clause-tells c = λ last.
    let text = c.args.text.now in
    let sdp = c.args.sdp.now in
    let old = c.args.notes.now in
    let mid = c.note_attributes.new.notes in
    let new = c.note_changes.new.notes in
    let fits : 0 + length (lines_of text) ≤ old.last = omega (arith, last) in
    let flags : map is_unread c.as_slice.result.now ≡ kept_flags sdp =
    ap (map is_unread) c.as_slice.ensures.value ∙ c.in_ok-marks.ensures in
    let keeps : KeepsUnread (kept_at (kept_flags sdp) (attribute_numbers 1 (lines_of text))) old mid =
    subst (λ (fs : List Bool). KeepsUnread (kept_at fs (attribute_numbers 1 (lines_of text))) old mid) flags
    (c.in_ok-note_attributes.ensures.keeps fits) in
    let none : c.args.rest.now ≡ [] = finding_rest_is_empty c.args.rest.now (sym c.is_empty.ensures ∙ c.if-is_empty.true) in
    let printed : c.as_str.result.now ≡ sdp_text sdp = search rules in
    let changed = finding_same_as_printed text c.lines_before_rest.result.now c.as_str.result.now sdp mid new
    (c.lines_before_rest.ensures none) printed
    c.in_ok-note_changes.ensures.changed in
    tells_whole text sdp c.args.rest.now old mid new none keeps c.in_ok-note_changes.ensures.only changed c.in_ok-note_changes.ensures.last

pub returns-clause-tells : goal.returns-clause-tells
returns-clause-tells c = λ last.
    let text = c.args.text.now in
    let rest = c.args.rest.now in
    let old = c.args.notes.now in
    let mid = c.note_attributes.new.notes in
    let late = c.note_changes.new.notes in
    let fits : 0 + length (lines_of text) ≤ old.last = omega (arith, last) in
    let flags : map is_unread c.as_slice.result.now ≡ kept_flags c.args.sdp.now =
    ap (map is_unread) c.as_slice.ensures.value ∙ c.in_ok-marks.ensures in
    let keeps : KeepsUnread (kept_at (kept_flags c.args.sdp.now) (attribute_numbers 1 (lines_of text))) old mid =
    subst (λ (fs : List Bool). KeepsUnread (kept_at fs (attribute_numbers 1 (lines_of text))) old mid) flags
    (c.in_ok-note_attributes.ensures.keeps fits) in
    let some = sym c.is_empty.ensures ∙ c.if-is_empty.false in
    let numbered = unread_numbered text rest some in
    let is : c.saturating_add.result ≡ first_unread text rest = omega (arith, some_lines rest some) in
    let stays = c.in_ok-note_changes.ensures.last in
    let here : IsLineNumber late.last c.saturating_add.result =
    (omega (arith, is), omega (arith, is, stays, keeps.last_stays, last, numbered.1)) in
    on_ok_weaker c.note_end.result
    (λ e. tells_rest text c.args.sdp.now rest c.saturating_add.result old mid late c.note_end.new.notes some is keeps
    c.in_ok-note_changes.ensures.only stays e)
    (c.note_end.ensures.ends here)
