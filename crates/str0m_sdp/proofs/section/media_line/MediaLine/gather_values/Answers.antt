use Rattle.str0m_sdp.proofs.Common.{nat_eq, ap, subst, sym, ◌∙◌, insert_entry}
use Rattle.str0m_sdp.proofs.section.SsrcInfoLaws.{ssrc_put_value, ssrc_pass_value}
use Rattle.str0m_sdp.proofs.section.media_line.MediaLine.gather_values.Goals as goal
use Rattle.str0m_sdp.specs.section.Sources.{AreSourcesPlaced, source_entries}
use Rattle.str0m_sdp.specs.section.SsrcInfoReading.{source_with_value, source_so_far}

pub loop-line-preserved : goal.loop-line-preserved
loop-line-preserved c =
    let lines = c.as_slice-line-items.result.now in
    let es = source_entries c.loop-line.sources in
    elim c.match-line.branch [
      | goal.in-Ssrc+in_ok-add_value w ↦ (
        ssrc_put_value lines c.loop-line.line-index c.line-item.result _ _ _ es (source_entries c.match-line.sources) c.loop-line-test.true
            c.line-item.is w.in-Ssrc.is c.loop-line.invariant.0
            (ap source_entries w.sources-is ∙ w.in_ok-add_value.ensures.entries
            ∙ (λ i. insert_entry nat_eq es w.in-Ssrc.ssrc
            (source_with_value (w.as_str.ensures.value i) (w.as_str-in-Ssrc.ensures.value i) (source_so_far es w.in-Ssrc.ssrc)))),
        subst AreSourcesPlaced (sym w.sources-is) w.in_ok-add_value.ensures.placed,
      )
      | goal.in_default w ↦ (
        ssrc_pass_value lines c.loop-line.line-index c.line-item.result es (source_entries c.match-line.sources) c.loop-line-test.true
            c.line-item.is
            w.in_default.not-Ssrc c.loop-line.invariant.0
            (ap source_entries w.sources-is),
        subst AreSourcesPlaced (sym w.sources-is) c.loop-line.invariant.1,
      )
    ]
