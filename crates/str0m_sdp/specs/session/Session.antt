-- What a session description prints (RFC 8866, section 5).
use Rattle.std.specs.Prelude.{◌<◌, ◌^◌, ℕ, List, ◌++◌, All, IfSome, codes, decimal, flat_map, IsUtf8}
use Rattle.str0m_sdp.specs.Prelude.{IsByte}
use Rattle.str0m_sdp.specs.attribute.Attribute.{FitsMediaAttribute, FitsSessionAttribute, session_attribute_text}
use Rattle.str0m_sdp.specs.attribute.AttributeFits.{FitsBandwidth}
use Rattle.str0m_sdp.specs.attribute.Bandwidth.{bandwidth_line}
use Rattle.str0m_sdp.specs.declared.attribute.media_type.MediaType.{MediaType}
use Rattle.str0m_sdp.specs.declared.attribute.media_type.MediaType.TheVariants.{Unknown}
use Rattle.str0m_sdp.specs.declared.section.media_line.MediaLine.{MediaLine}
use Rattle.str0m_sdp.specs.declared.session.Sdp.{Sdp}
use Rattle.str0m_sdp.specs.declared.session.Session.{Session}
use Rattle.str0m_sdp.specs.form.Printed.{printed_line_end}
use Rattle.str0m_sdp.specs.section.MediaLine.{media_line_text}

-- the number of a session has 64 bits (RFC 8866, section 5.2)
abbrev pub IsSessionNumber : ℕ → Type 0
IsSessionNumber n = n < 2 ^ 64

-- the origin (RFC 8866, section 5.2): user, session id, version and no address
abbrev pub versioned_origin : List ℕ → ℕ → List ℕ
versioned_origin version id = codes "o=str0m-0.25.0 " ++ (decimal id ++ (codes " " ++ (version ++ (codes " IN IP4 0.0.0.0" ++ printed_line_end))))

-- that of a text without another version
abbrev pub origin_line : ℕ → List ℕ
origin_line id = versioned_origin (codes "2") id

-- version of SDP, origin, the name of a session that has none (RFC 8866, section 5.3), bandwidth, a time
-- without start and end (RFC 8866, section 5.9), attributes
abbrev pub session_lines : List ℕ → Session → List ℕ
session_lines origin session =
    codes "v=0" ++ (printed_line_end ++ (origin ++ (codes "s=-" ++ (printed_line_end
    ++ (bandwidth_line session.bw ++ (codes "t=0 0" ++ (printed_line_end
    ++ flat_map session_attribute_text session.attrs)))))))

abbrev pub session_text : Session → List ℕ
session_text session = session_lines (origin_line session.id) session

-- the session, then its sections in order
abbrev pub sdp_text : Sdp → List ℕ
sdp_text sdp = session_text sdp.session ++ flat_map media_line_text sdp.media_lines

-- the same with this version in the origin
abbrev pub versioned_text : ℕ → Sdp → List ℕ
versioned_text version sdp =
    session_lines (versioned_origin (decimal version) sdp.session.id) sdp.session ++ flat_map media_line_text sdp.media_lines

-- ---- which values fit their types

pub record FitsSession (s : Session) : Type 0 where
  pub id : IsSessionNumber s.id
  pub bandwidth : IfSome s.bw FitsBandwidth
  pub attributes : All FitsSessionAttribute s.attrs

abbrev pub FitsMediaType : MediaType → Type 0
FitsMediaType (Unknown text) = IsUtf8 text
FitsMediaType _ = Unit {0}

pub record FitsSection (m : MediaLine) : Type 0 where
  pub typ : FitsMediaType m.typ
  pub pts : All IsByte m.pts
  pub bandwidth : IfSome m.bw FitsBandwidth
  pub attributes : All FitsMediaAttribute m.attrs

pub record FitsSdp (sdp : Sdp) : Type 0 where
  pub session : FitsSession sdp.session
  pub sections : All FitsSection sdp.media_lines
