use Rattle.str0m_sdp.proofs.Common.{rules, tests, YieldsList-from_slice}
use Rattle.str0m_sdp.proofs.section.SectionAccessorsFinding.{first_from_find_map}
use Rattle.str0m_sdp.proofs.session.sdp_accessors.session_creds_among.Goals as goal
use Rattle.str0m_sdp.specs.declared.section.media_line.MediaLine.{MediaLine}
use Rattle.str0m_sdp.specs.session.Transport.{lent_transport_creds, media_creds}

pub returns : goal.returns
returns c = first_from_find_map lent_transport_creds (λ (m : MediaLine). media_creds m.attrs) (YieldsList-from_slice c.args.lines.now cc)
    (λ x r q k. search (rules, tests)) c.find_map.result c.find_map.ensures.runs
