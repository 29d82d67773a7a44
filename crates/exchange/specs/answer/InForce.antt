-- What is in force at a section: what it says itself, else what the session says for all sections.
use Rattle.exchange.specs.Prelude.{Fingerprint, IceCreds, MediaAttribute, MediaLine, Sdp, SessionAttribute, Setup, creds, first, first_filled_fingerprints, media_fingerprint, media_pwd, media_setup, media_ufrag, session_fingerprint, session_pwd, session_setup, session_ufrag}
use Rattle.std.specs.Option.{option_or}
use Rattle.std.specs.Prelude.{ℕ, List, [], ◌∷◌, Option, Some, None, filter_map, slice_get}

-- the first that the section there says, else the first that the session says; nothing where there is no section
abbrev pub in_force_of : {X : Type 0} → (MediaAttribute → Option X) → (SessionAttribute → Option X) → List SessionAttribute → Option MediaLine → Option X
in_force_of of_section of_session session None = None
in_force_of of_section of_session session (Some m) = option_or (first (filter_map of_section m.attrs)) (first (filter_map of_session session))

abbrev pub in_force : {X : Type 0} → (MediaAttribute → Option X) → (SessionAttribute → Option X) → Sdp → ℕ → Option X
in_force of_section of_session sdp at = in_force_of of_section of_session sdp.session.attrs (slice_get sdp.media_lines at)

-- the role (RFC 4145, section 4; RFC 8842, section 5.2)
abbrev pub setup_at : Sdp → ℕ → Option Setup
setup_at = in_force media_setup session_setup

-- the username fragment and the password, each by itself (RFC 8839, section 5.4)
abbrev pub ufrag_in_force : Sdp → ℕ → Option (List ℕ)
ufrag_in_force = in_force media_ufrag session_ufrag

abbrev pub pwd_in_force : Sdp → ℕ → Option (List ℕ)
pwd_in_force = in_force media_pwd session_pwd

abbrev pub creds_at : Sdp → ℕ → Option IceCreds
creds_at sdp at = creds (ufrag_in_force sdp at) (pwd_in_force sdp at)

-- the fingerprints of the section, else those of the session (RFC 8122, section 5)
abbrev pub fingerprints_of : List SessionAttribute → Option MediaLine → List Fingerprint
fingerprints_of session None = []
fingerprints_of session (Some m) = first_filled_fingerprints (filter_map media_fingerprint m.attrs ∷ filter_map session_fingerprint session ∷ [])

abbrev pub fingerprints_at : Sdp → ℕ → List Fingerprint
fingerprints_at sdp at = fingerprints_of sdp.session.attrs (slice_get sdp.media_lines at)
