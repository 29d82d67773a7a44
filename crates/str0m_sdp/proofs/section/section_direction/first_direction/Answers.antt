use Rattle.str0m_sdp.proofs.Common.{rules, tests, YieldsList-from_slice}
use Rattle.str0m_sdp.proofs.section.SectionAccessorsFinding.{first_by_find_map}
use Rattle.str0m_sdp.proofs.section.section_direction.first_direction.Goals as goal
use Rattle.str0m_sdp.specs.section.SectionDirection.{direction_of}

pub returns : goal.returns
returns c = first_by_find_map direction_of (YieldsList-from_slice c.args.attrs.now cc) (λ x r q k. search (rules, tests)) c.find_map.result
    c.find_map.ensures.runs
