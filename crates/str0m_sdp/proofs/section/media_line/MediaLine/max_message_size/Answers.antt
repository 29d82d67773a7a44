use Rattle.str0m_sdp.proofs.Common.{rules, tests, YieldsList-from_slice}
use Rattle.str0m_sdp.proofs.section.SectionAccessorsFinding.{first_by_find_map}
use Rattle.str0m_sdp.proofs.section.media_line.MediaLine.max_message_size.Goals as goal
use Rattle.str0m_sdp.specs.section.SectionAccessors.{section_max_message_size_of}

pub returns : goal.returns
returns c = first_by_find_map section_max_message_size_of (YieldsList-from_slice c.args.self.now.attrs cc)
    (λ x r q k. search (rules, tests))
    c.find_map.result c.find_map.ensures.runs
