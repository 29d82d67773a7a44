use Rattle.str0m_sdp.proofs.Common.{rules, tests, YieldsList-from_slice}
use Rattle.str0m_sdp.proofs.section.SectionAccessorsFinding.{first_from_find_map}
use Rattle.str0m_sdp.proofs.section.section_accessors.first_msid.Goals as goal
use Rattle.str0m_sdp.specs.section.SectionAccessors.{msid_of}

pub returns : goal.returns
returns c = first_from_find_map (λ msid. msid.now) msid_of (YieldsList-from_slice c.args.attrs.now cc) (λ x r q k. search (rules, tests))
    c.find_map.result c.find_map.ensures.runs
