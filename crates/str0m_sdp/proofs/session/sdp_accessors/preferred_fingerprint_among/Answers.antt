use Rattle.str0m_sdp.proofs.Common.{rules, tests, YieldsList-from_slice}
use Rattle.str0m_sdp.proofs.section.SectionAccessorsFinding.{first_from_find_map}
use Rattle.str0m_sdp.proofs.session.sdp_accessors.preferred_fingerprint_among.Goals as goal
use Rattle.str0m_sdp.specs.session.PreferredFingerprint.{media_fingerprints, preferred}

pub returns : goal.returns
returns c = first_from_find_map (λ print. print.now) (λ m. preferred (media_fingerprints m)) (YieldsList-from_slice c.args.lines.now cc)
    (λ x r q k. search (rules, tests)) c.find_map.result c.find_map.ensures.runs
