-- Sections that say how their transport is reached, or for which the session says so.
use Rattle.exchange.specs.Prelude.{MediaAttribute, MediaLine, Session, SessionAttribute}
use Rattle.std.specs.List.{list_any}
use Rattle.std.specs.Prelude.{◌||◌, ◌&&◌, Bool, true, false}
use Rattle.str0m_sdp.specs.declared.attribute.MediaAttribute.TheVariants as media
use Rattle.str0m_sdp.specs.declared.attribute.SessionAttribute.TheVariants as session

abbrev pub is_section_ufrag : MediaAttribute → Bool
is_section_ufrag (media.IceUfrag text) = true
is_section_ufrag _ = false

abbrev pub is_section_pwd : MediaAttribute → Bool
is_section_pwd (media.IcePwd text) = true
is_section_pwd _ = false

abbrev pub is_fingerprint : MediaAttribute → Bool
is_fingerprint (media.Fingerprint hash) = true
is_fingerprint _ = false

abbrev pub is_session_ufrag : SessionAttribute → Bool
is_session_ufrag (session.IceUfrag text) = true
is_session_ufrag _ = false

abbrev pub is_session_pwd : SessionAttribute → Bool
is_session_pwd (session.IcePwd text) = true
is_session_pwd _ = false

abbrev pub is_session_fingerprint : SessionAttribute → Bool
is_session_fingerprint (session.Fingerprint hash) = true
is_session_fingerprint _ = false

abbrev pub section_has_ufrag : Session → MediaLine → Bool
section_has_ufrag session m = list_any is_section_ufrag m.attrs || list_any is_session_ufrag session.attrs

abbrev pub section_has_pwd : Session → MediaLine → Bool
section_has_pwd session m = list_any is_section_pwd m.attrs || list_any is_session_pwd session.attrs

-- credentials are in force (RFC 8839, section 5.4)
abbrev pub section_has_creds : Session → MediaLine → Bool
section_has_creds session m = section_has_ufrag session m && section_has_pwd session m

-- a fingerprint is in force (RFC 8122, section 5)
abbrev pub has_fingerprint : Session → MediaLine → Bool
has_fingerprint session m = list_any is_fingerprint m.attrs || list_any is_session_fingerprint session.attrs
