use Rattle.str0m_sdp.proofs.Common.{take, ◌++◌, filter_map}
use Rattle.str0m_sdp.proofs.section.media_line.MediaLine.add_repairs.Given as goal
use Rattle.str0m_sdp.specs.section.Sources.{AreSourcesPlaced, source_entries}
use Rattle.str0m_sdp.specs.section.SsrcInfo.{source_of, repair_source}
use Rattle.str0m_sdp.specs.section.SsrcInfoReading.{AreSourcesGathered}

-- all values and the groups so far are gathered
abbrev pub invariant-loop-line : goal.invariant-loop-line
invariant-loop-line l =
    AreSourcesGathered (filter_map source_of l.line-items ++ filter_map repair_source (take l.line-index l.line-items))
    (take l.line-index l.line-items) l.line-items (source_entries l.sources)
    × AreSourcesPlaced l.sources
