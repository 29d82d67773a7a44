use Rattle.str0m_sdp.proofs.Common.{◌==◌, ℕ, List, take, ap, sym, refl, ◌∙◌, list_any, get_or-replicate, length-set, take_all}
use Rattle.str0m_sdp.proofs.section.TypeTablesMarks.{mark_any_more, set_marked}
use Rattle.str0m_sdp.proofs.section.type_tables.types_in.Goals as goal

pub loop-pt-init : goal.loop-pt-init
loop-pt-init c = (refl, λ pt lt. get_or-replicate 256 pt _ _ lt)

pub loop-pt-preserved : goal.loop-pt-preserved
loop-pt-preserved c =
    let pts = c.args.pts.now in
    let i = c.loop-pt.pt-index in
    let n = c.pt-item.result in
    let row = rw (← c.loop-pt.invariant.0, c.place.ensures.is) at c.place.ensures.within in
    rw c.place.ensures.is (
      length-set c.loop-pt.types n _ ∙ c.loop-pt.invariant.0,
      λ pt lt. set_marked c.loop-pt.types n pt (list_any (λ m. m == pt) (take i pts)) row (c.loop-pt.invariant.1 pt lt)
          ∙ sym (mark_any_more (λ m. m == pt) pts i n c.loop-pt-test.true c.pt-item.is),
    )

pub returns : goal.returns
returns c = λ pt lt.
    c.loop-pt.invariant.1 pt lt ∙ ap (λ (pts : List ℕ). list_any (λ m. m == pt) pts)
    (take_all c.loop-pt.pt-index c.args.pts.now c.loop-pt-test.false)
