use Rattle.str0m_sdp.proofs.Common.{◌||◌, ℕ, Bool, List, take, take_all, ap, sym, refl, ◌∙◌, list_any, get_or-replicate, length-set}
use Rattle.str0m_sdp.proofs.Common.{and_right}
use Rattle.str0m_sdp.proofs.section.MappingsFilterMap.{any_of_mapped}
use Rattle.str0m_sdp.proofs.section.TypeTablesMarks.{mark_any_more, mark_any_same, set_marked, mark_and_when}
use Rattle.str0m_sdp.proofs.section.mappings.types_of.Goals as goal
use Rattle.str0m_sdp.specs.declared.section.mappings.MappedType.{MappedType}
use Rattle.str0m_sdp.specs.section.Mappings.{codec_of_type, stands_for_codec}

pub loop-row-init : goal.loop-row-init
loop-row-init c = (refl, λ pt lt. get_or-replicate 256 pt _ _ lt)

pub loop-row-preserved : goal.loop-row-preserved
loop-row-preserved c =
    let rows = c.args.mapped.now in
    let i = c.loop-row.row-index in
    let item = c.row-item.result in
    let passes = λ (pt : ℕ) (row : MappedType). stands_for_codec c.args.codec pt (codec_of_type row) in
    elim c.if-eq.branch [
      | goal.then-eq w ↦
          let row = rw (← c.loop-row.invariant.0, w.place.ensures.is) at w.place.ensures.within in
          rw (w.types-is, w.place.ensures.is) (
            length-set c.loop-row.types item.pt _ ∙ c.loop-row.invariant.0,
            λ pt lt. set_marked c.loop-row.types item.pt pt (list_any (passes pt) (take i rows)) row (c.loop-row.invariant.1 pt lt)
                ∙ sym (mark_any_more (passes pt) rows i item c.loop-row-test.true c.row-item.is
                ∙ ap (λ (b : Bool). list_any (passes pt) (take i rows) || b) (mark_and_when _ _ (sym c.eq.ensures ∙ w.if-eq.true))),
          )
      | goal.else-eq w ↦
          rw w.types-is (
            c.loop-row.invariant.0,
            λ pt lt. c.loop-row.invariant.1 pt lt
                ∙ sym (mark_any_same (passes pt) rows i item c.loop-row-test.true c.row-item.is
                (and_right _ _ (sym c.eq.ensures ∙ w.if-eq.false))),
          )
    ]

pub returns-clause-rows : goal.returns-clause-rows
returns-clause-rows c = λ pt lt.
    let passes = λ (row : MappedType). stands_for_codec c.args.codec pt (codec_of_type row) in
    c.loop-row.invariant.1 pt lt
    ∙ ap (λ (rows : List MappedType). list_any passes rows) (take_all c.loop-row.row-index c.args.mapped.now c.loop-row-test.false)
    ∙ sym (any_of_mapped (stands_for_codec c.args.codec pt) codec_of_type c.args.mapped.now)
