use Rattle.str0m_sdp.proofs.Common.{◌==◌, take, sym, refl, ◌∙◌, list_any, get_or-replicate, length-set}
use Rattle.str0m_sdp.proofs.section.TypeTablesMarks.{mark_any_more, set_marked}
use Rattle.str0m_sdp.proofs.section.mappings.mapped_types.Goals as goal

pub loop-row-init : goal.loop-row-init
loop-row-init c = (refl, λ pt lt. get_or-replicate 256 pt _ _ lt)

pub loop-row-preserved : goal.loop-row-preserved
loop-row-preserved c =
    let rows = c.args.mapped.now in
    let i = c.loop-row.row-index in
    let item = c.row-item.result in
    let row = rw (← c.loop-row.invariant.0, c.place.ensures.is) at c.place.ensures.within in
    rw c.place.ensures.is (
      length-set c.loop-row.types item.pt _ ∙ c.loop-row.invariant.0,
      λ pt lt. set_marked c.loop-row.types item.pt pt (list_any (λ m. m.pt == pt) (take i rows)) row (c.loop-row.invariant.1 pt lt)
          ∙ sym (mark_any_more (λ m. m.pt == pt) rows i item c.loop-row-test.true c.row-item.is),
    )
