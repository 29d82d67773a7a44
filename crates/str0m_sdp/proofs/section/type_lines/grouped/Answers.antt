use Rattle.str0m_sdp.proofs.Common.{rules, get_or, ap, ◌∙◌}
use Rattle.str0m_sdp.proofs.section.TypeLineLaws.{type_line_more}
use Rattle.str0m_sdp.proofs.section.type_lines.grouped.Goals as goal

pub loop-number-preserved : goal.loop-number-preserved
loop-number-preserved c =
    let lines = c.args.lines.now in
    let item = c.loop-number-item.result in
    rw c.from.ensures
    (type_line_more lines c.loop-number.number-index item c.loop-number.groups.items c.index_mut.result.now c.add.new.self
    c.loop-number-test.true c.loop-number-item.is
    (search rules) c.loop-number.invariant (c.index_mut.ensures.value
    ∙ ap (λ n. get_or c.loop-number.groups.items n c.index_mut.result.now) c.from.ensures) c.in_ok-add.ensures.lines
    c.in_ok-add.ensures.known)
