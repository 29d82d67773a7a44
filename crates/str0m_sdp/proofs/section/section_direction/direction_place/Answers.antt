use Rattle.str0m_sdp.proofs.Common.{ap, arith, ◌∙◌, is_some, same_Some}
use Rattle.str0m_sdp.proofs.section.SectionAccessorsLists.{accessor_first_within, section_position_within}
use Rattle.str0m_sdp.proofs.section.section_direction.direction_place.Goals as goal
use Rattle.str0m_sdp.specs.section.Consistency.{is_direction}

pub unwrap-requires : goal.unwrap-requires
unwrap-requires c = ap is_some (c.find_direction.ensures ∙ section_position_within is_direction c.args.attrs.now c.requires)

pub returns : goal.returns
returns c = grind (arith, same_Some, section_position_within, accessor_first_within)
