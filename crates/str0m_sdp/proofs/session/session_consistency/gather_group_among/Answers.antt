use Rattle.str0m_sdp.proofs.Common.{◌++◌, option_to_list, sym, ◌∙◌}
use Rattle.str0m_sdp.proofs.section.MappingsFilterMap.{map_more}
use Rattle.str0m_sdp.proofs.session.session_consistency.gather_group_among.Goals as goal
use Rattle.str0m_sdp.specs.session.OrderedMids.{part_mid}

pub loop-section-preserved : goal.loop-section-preserved
loop-section-preserved c =
    c.in_ok-push_mid.ensures
    ∙ (λ i. c.loop-section.invariant i ++ option_to_list (c.part_mid.ensures i))
    ∙ sym (map_more (part_mid c.args.names.now) c.args.sections.now c.loop-section.section-index c.section-item.result
    c.loop-section-test.true c.section-item.is)
