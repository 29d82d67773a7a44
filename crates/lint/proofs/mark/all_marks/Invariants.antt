use Rattle.lint.proofs.Common.{◌≡◌, ◌++◌, map, take, flat_map}
use Rattle.lint.proofs.mark.all_marks.Given as goal
use Rattle.lint.specs.Kept.{is_unread, kept_of_section, kept_of_session}

abbrev pub invariant-loop-section : goal.invariant-loop-section
invariant-loop-section l =
    map is_unread l.marks.items ≡ kept_of_session l.sdp.session.attrs ++ flat_map kept_of_section (take l.section-index l.section-items)
