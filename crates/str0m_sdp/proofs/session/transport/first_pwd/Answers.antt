use Rattle.str0m_sdp.proofs.Common.{rules, tests, YieldsList-from_slice}
use Rattle.str0m_sdp.proofs.section.SectionAccessorsFinding.{first_from_find_map}
use Rattle.str0m_sdp.proofs.session.transport.first_pwd.Goals as goal

pub returns : goal.returns
returns g c = first_from_find_map (λ text. text.now) g.A.TransportAttribute.pwd (YieldsList-from_slice c.args.attrs.now cc)
    (λ x r q k. search (rules, tests)) c.find_map.result c.find_map.ensures.runs
