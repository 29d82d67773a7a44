use Rattle.str0m_sdp.proofs.Common.{rules, tests, ◌∙◌, YieldsList-from_rev_slice}
use Rattle.str0m_sdp.proofs.section.SectionAccessorsFinding.{first_from_find_map}
use Rattle.str0m_sdp.proofs.section.SectionAccessorsLists.{section_first_reversed}
use Rattle.str0m_sdp.proofs.section.section_accessors.last_simulcast.Goals as goal
use Rattle.str0m_sdp.specs.section.SectionAccessors.{simulcast_of}

pub returns : goal.returns
returns c =
    first_from_find_map (λ simulcast. simulcast.now) simulcast_of (YieldsList-from_rev_slice c.args.attrs.now cc)
    (λ x r q k. search (rules, tests)) c.find_map.result c.find_map.ensures.runs
    ∙ section_first_reversed simulcast_of c.args.attrs.now
