use Rattle.exchange.proofs.answer.RejectedSectionLaws.{rejected_made_of_parts}
use Rattle.exchange.proofs.answer.rejected_section.rejecting.Goals as goal

pub returns : goal.returns
returns c =
    rejected_made_of_parts c.args.offered.now c.in_ok-clone.field-0 c.in_ok-rejected_type_alone.field-0.items c.as_slice-listed.result.now
    c.in_ok-attrs.attrs.items
    c.as_slice.result.now c.first_rejected_type-pt.result c.in_ok-clone.ensures c.as_slice-listed.ensures c.as_slice.ensures
    c.first_rejected_type-pt.ensures
    c.in_ok-rejected_type_alone.ensures c.in_ok-attrs.ensures
