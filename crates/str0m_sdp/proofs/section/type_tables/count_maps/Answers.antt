use Rattle.str0m_sdp.proofs.Common.{refl, ◌∙◌, get_or-replicate, length-set}
use Rattle.str0m_sdp.proofs.section.TypeTableLaws.{table_maps_count_same, table_maps_count_more}
use Rattle.str0m_sdp.proofs.section.type_tables.count_maps.Goals as goal

pub loop-attr-init : goal.loop-attr-init
loop-attr-init c = (refl, λ pt lt. get_or-replicate 256 pt 0 0 lt)

pub loop-attr-preserved : goal.loop-attr-preserved
loop-attr-preserved c =
    let attrs = c.args.attrs.now in
    let i = c.loop-attr.attr-index in
    elim c.match-attr.branch [
      | goal.in-RtpMap w ↦
          let n = w.place.result in
          let row = rw (← c.loop-attr.invariant.0) at w.place.ensures.within in
          let variant = rw (← w.place.ensures.is) at w.in-RtpMap.is in
          rw w.counts-is (
            length-set c.loop-attr.counts n _ ∙ c.loop-attr.invariant.0,
            λ pt lt. table_maps_count_more attrs c.loop-attr.counts i n w.in-RtpMap.value c.attr-item.result c.loop-attr-test.true row
                c.attr-item.is
                variant pt (c.loop-attr.invariant.1 pt lt),
          )
      | goal.in_default w ↦
          rw w.counts-is (
            c.loop-attr.invariant.0,
            λ pt lt. table_maps_count_same attrs c.loop-attr.counts i c.attr-item.result c.loop-attr-test.true c.attr-item.is
                w.in_default.not-RtpMap
                pt (c.loop-attr.invariant.1 pt lt),
          )
    ]
