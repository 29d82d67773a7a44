-- What sessions and sections both say of their transport.
use Rattle.std.specs.Borrow.{Bor}
use Rattle.std.specs.Option.{option_or}
use Rattle.std.specs.Prelude.{ℕ, Bool, true, false, List, Option, Some, None, filter_map}
use Rattle.str0m_sdp.specs.Common.{first}
use Rattle.str0m_sdp.specs.Prelude.{Fingerprint, IceCreds}
use Rattle.str0m_sdp.specs.declared.attribute.MediaAttribute.{MediaAttribute}
use Rattle.str0m_sdp.specs.declared.attribute.MediaAttribute.TheVariants as media
use Rattle.str0m_sdp.specs.declared.attribute.SessionAttribute.{SessionAttribute}
use Rattle.str0m_sdp.specs.declared.attribute.SessionAttribute.TheVariants as session
use Rattle.str0m_sdp.specs.declared.attribute.setup.Setup.{Setup}
use Rattle.str0m_sdp.specs.declared.section.media_line.MediaLine.{MediaLine}
use Rattle.str0m_sdp.specs.declared.session.Sdp.{Sdp}

-- the role in the DTLS handshake (RFC 8842, section 5.2)
abbrev pub session_setup : SessionAttribute → Option Setup
session_setup (session.Setup setup) = Some setup
session_setup _ = None

abbrev pub media_setup : MediaAttribute → Option Setup
media_setup (media.Setup setup) = Some setup
media_setup _ = None

-- the name fragment of the ICE agent (RFC 8839, section 5.4)
abbrev pub session_ufrag : SessionAttribute → Option (List ℕ)
session_ufrag (session.IceUfrag text) = Some text
session_ufrag _ = None

abbrev pub media_ufrag : MediaAttribute → Option (List ℕ)
media_ufrag (media.IceUfrag text) = Some text
media_ufrag _ = None

-- its password (RFC 8839, section 5.4)
abbrev pub session_pwd : SessionAttribute → Option (List ℕ)
session_pwd (session.IcePwd text) = Some text
session_pwd _ = None

abbrev pub media_pwd : MediaAttribute → Option (List ℕ)
media_pwd (media.IcePwd text) = Some text
media_pwd _ = None

-- a hash of the certificate (RFC 8122, section 5)
abbrev pub session_fingerprint : SessionAttribute → Option Fingerprint
session_fingerprint (session.Fingerprint hash) = Some hash
session_fingerprint _ = None

abbrev pub media_fingerprint : MediaAttribute → Option Fingerprint
media_fingerprint (media.Fingerprint hash) = Some hash
media_fingerprint _ = None

-- that no candidate follows (RFC 8840, section 8.1)
abbrev pub session_ends : SessionAttribute → Bool
session_ends session.EndOfCandidates = true
session_ends _ = false

abbrev pub media_ends : MediaAttribute → Bool
media_ends media.EndOfCandidates = true
media_ends _ = false

-- that the agent is a lite one (RFC 8839, section 5.3)
abbrev pub is_ice_lite : SessionAttribute → Bool
is_ice_lite session.IceLite = true
is_ice_lite _ = false

-- the credentials of a fragment and a password; none where one is missing
abbrev pub creds : Option (List ℕ) → Option (List ℕ) → Option IceCreds
creds None pass = None
creds (Some ufrag) None = None
creds (Some ufrag) (Some pass) = Some (record { ufrag = ufrag; pass = pass })

-- credentials that are lent
abbrev pub lent_transport_creds : Bor (List ℕ) × Bor (List ℕ) → IceCreds
lent_transport_creds lent = record { ufrag = lent.0.now; pass = lent.1.now }

-- those of the first fragment and the first password
abbrev pub session_creds : List SessionAttribute → Option IceCreds
session_creds attrs = creds (first (filter_map session_ufrag attrs)) (first (filter_map session_pwd attrs))

abbrev pub media_creds : List MediaAttribute → Option IceCreds
media_creds attrs = creds (first (filter_map media_ufrag attrs)) (first (filter_map media_pwd attrs))

-- what a description says: what its session says, else the first of its sections that says it
abbrev pub sdp_setup : Sdp → Option Setup
sdp_setup sdp =
    option_or (first (filter_map session_setup sdp.session.attrs))
    (first (filter_map (λ (m : MediaLine). first (filter_map media_setup m.attrs)) sdp.media_lines))

abbrev pub sdp_creds : Sdp → Option IceCreds
sdp_creds sdp =
    option_or (session_creds sdp.session.attrs)
    (first (filter_map (λ (m : MediaLine). media_creds m.attrs) sdp.media_lines))
