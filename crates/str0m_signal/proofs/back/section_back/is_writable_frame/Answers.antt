use Rattle.str0m_signal.proofs.Common.{sym, ◌∙◌}
use Rattle.str0m_signal.proofs.back.WritableLaws.{writable_frame_alone, no_writable_frame, writable_told_by}
use Rattle.str0m_signal.proofs.back.section_back.is_writable_frame.Goals as goal

pub returns : goal.returns
returns c =
    let told = rw c.empty.ensures at
    (writable_told_by c.in_ok-check_consistent.field-0 _ c.is_none.result c.in_ok-check_consistent.ensures.told c.is_none.ensures) in
    writable_frame_alone c.args.section (rw c.as_slice.ensures at (sym c.describe_types.ensures ∙ c.if-describe_types.false)) told

pub returns-then-describe_types : goal.returns-then-describe_types
returns-then-describe_types c = no_writable_frame c.args.section
    (rw c.as_slice.ensures at (sym c.describe_types.ensures ∙ c.if-describe_types.true))
