use Rattle.str0m_values.proofs.CutLaws.{prefix_ends}
use Rattle.str0m_values.proofs.cuts.strip.Goals as goal

pub range_from-requires : goal.range_from-requires
range_from-requires c =
    let begins = rw (c.as_bytes.ensures.value, c.as_bytes-2.ensures.value) at c.if-begins_with.ensures in
    λ _. prefix_ends c.args.prefix.now c.args.text.now c.utf8.prefix c.utf8.text begins
