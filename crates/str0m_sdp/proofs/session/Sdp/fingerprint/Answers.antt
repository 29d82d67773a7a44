use Rattle.str0m_sdp.proofs.Common.{ap, filter_map, map, ◌∙◌, option_or}
use Rattle.str0m_sdp.proofs.session.PreferredFingerprintLaws.{preferred_among, preferred_copied, preferred_of_first}
use Rattle.str0m_sdp.proofs.session.Sdp.fingerprint.Goals as goal
use Rattle.str0m_sdp.specs.session.PreferredFingerprint.{first_filled_fingerprints, media_fingerprints, preferred}
use Rattle.str0m_sdp.specs.session.Transport.{session_fingerprint}

pub returns-in-Some : goal.returns-in-Some
returns-in-Some c =
    let sdp = c.args.self.now in
    let others = map media_fingerprints sdp.media_lines in
    let own = c.in-Some.ensures ∙ ap (λ attrs. preferred (filter_map session_fingerprint attrs)) c.as_slice.ensures in
    preferred_copied c.copied_fingerprint.result _ _ c.copied_fingerprint.ensures
    (ap (λ o. option_or o (preferred (first_filled_fingerprints others))) own
    ∙ preferred_of_first (filter_map session_fingerprint sdp.session.attrs) others)

pub returns-in-None : goal.returns-in-None
returns-in-None c =
    let sdp = c.args.self.now in
    let others = map media_fingerprints sdp.media_lines in
    let own = c.in-None.ensures ∙ ap (λ attrs. preferred (filter_map session_fingerprint attrs)) c.as_slice.ensures in
    let among = c.preferred_fingerprint_among.ensures ∙ preferred_among media_fingerprints c.as_slice-in-None.result.now
    ∙ ap (λ lines. preferred (first_filled_fingerprints (map media_fingerprints lines))) c.as_slice-in-None.ensures in
    preferred_copied c.copied_fingerprint-in-None.result _ _ c.copied_fingerprint-in-None.ensures
    (among ∙ ap (λ o. option_or o (preferred (first_filled_fingerprints others))) own
    ∙ preferred_of_first (filter_map session_fingerprint sdp.session.attrs) others)
