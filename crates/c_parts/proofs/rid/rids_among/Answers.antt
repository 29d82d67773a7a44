use Rattle.c_parts.proofs.rid.rids_among.Goals as goal
use Rattle.c_parts.specs.Rid.{c_rid}
use Rattle.std.proofs.Common.{arith}
use Rattle.std.proofs.lemmas.Grind.{common_steps}
use Rattle.str0m_sdp.proofs.{map_more}

pub loop-line-preserved : goal.loop-line-preserved
loop-line-preserved c =
    let more = map_more c_rid c.args.lines.now c.loop-line.line-index c.line-item.result c.loop-line-test.true c.line-item.is in
    grind (arith, common_steps, more)
