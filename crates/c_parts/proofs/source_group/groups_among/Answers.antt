use Rattle.c_parts.proofs.SourceGroupCounting.{counted_on}
use Rattle.c_parts.proofs.source_group.groups_among.Goals as goal
use Rattle.c_parts.specs.SourceGroup.{grouped_ssrcs_of}
use Rattle.std.proofs.Common.{arith}
use Rattle.std.proofs.lemmas.Grind.{common_steps}
use Rattle.str0m_sdp.proofs.{map_more}

pub loop-line-preserved : goal.loop-line-preserved
loop-line-preserved c =
    let more = map_more grouped_ssrcs_of c.args.lines.now c.loop-line.line-index c.line-item.result c.loop-line-test.true c.line-item.is in
    grind (arith, common_steps, more, counted_on)
