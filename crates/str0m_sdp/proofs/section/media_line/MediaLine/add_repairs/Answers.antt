use Rattle.str0m_sdp.proofs.Common.{ap, subst, sym, ◌∙◌, filter_map}
use Rattle.str0m_sdp.proofs.section.SsrcInfoLaws.{put_repair, pass_repair}
use Rattle.str0m_sdp.proofs.section.media_line.MediaLine.add_repairs.Goals as goal
use Rattle.str0m_sdp.specs.section.Sources.{AreSourcesPlaced, source_entries}
use Rattle.str0m_sdp.specs.section.SsrcInfo.{source_of}

pub loop-line-preserved : goal.loop-line-preserved
loop-line-preserved c =
    let lines = c.as_slice-line-items.result.now in
    let es = source_entries c.loop-line.sources in
    elim c.match-repair_pair.branch [
      | goal.in-Some+in_ok-add_repair w ↦ (
        put_repair (filter_map source_of lines) lines c.loop-line.line-index c.line-item.result es
            (source_entries c.match-repair_pair.sources)
            c.loop-line-test.true c.line-item.is c.loop-line.invariant.0
            _ (sym w.in-Some.ensures) (ap source_entries w.sources-is ∙ w.in_ok-add_repair.ensures.entries),
        subst AreSourcesPlaced (sym w.sources-is) w.in_ok-add_repair.ensures.placed,
      )
      | goal.in_default w ↦ (
        pass_repair (filter_map source_of lines) lines c.loop-line.line-index c.line-item.result es
            (source_entries c.match-repair_pair.sources)
            c.loop-line-test.true c.line-item.is c.loop-line.invariant.0
            (sym w.in_default.ensures) (ap source_entries w.sources-is),
        subst AreSourcesPlaced (sym w.sources-is) c.loop-line.invariant.1,
      )
    ]
