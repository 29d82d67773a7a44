use Rattle.str0m_sdp.proofs.Common.{[], take, filter_map}
use Rattle.str0m_sdp.proofs.section.media_line.MediaLine.gather_values.Given as goal
use Rattle.str0m_sdp.specs.section.Sources.{AreSourcesPlaced, source_entries}
use Rattle.str0m_sdp.specs.section.SsrcInfo.{source_of}
use Rattle.str0m_sdp.specs.section.SsrcInfoReading.{AreSourcesGathered}

-- the values so far are gathered
abbrev pub invariant-loop-line : goal.invariant-loop-line
invariant-loop-line l =
    AreSourcesGathered (filter_map source_of (take l.line-index l.line-items)) [] (take l.line-index l.line-items)
    (source_entries l.sources)
    × AreSourcesPlaced l.sources
