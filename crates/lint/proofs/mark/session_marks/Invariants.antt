use Rattle.lint.proofs.Common.{◌≡◌, map, take}
use Rattle.lint.proofs.mark.session_marks.Given as goal
use Rattle.lint.specs.Kept.{is_unread, kept_of_session}

abbrev pub invariant-loop-attribute : goal.invariant-loop-attribute
invariant-loop-attribute l = map is_unread l.marks.items ≡ kept_of_session (take l.attribute-index l.attributes)
