-- What the attributes of a section hold.
use Rattle.std.specs.Borrow.{Bor}
use Rattle.std.specs.Prelude.{◌≡◌, ◌≤◌, ℕ, List, Option, Some, None, filter_map, length}
use Rattle.str0m_sdp.specs.Common.{first}
use Rattle.str0m_sdp.specs.Prelude.{Extension}
use Rattle.str0m_sdp.specs.declared.attribute.MediaAttribute.{MediaAttribute}
use Rattle.str0m_sdp.specs.declared.attribute.MediaAttribute.TheVariants as media
use Rattle.str0m_sdp.specs.declared.attribute.msid.Msid.{Msid}
use Rattle.str0m_sdp.specs.declared.attribute.simulcast.Simulcast.{Simulcast}
use Rattle.str0m_sdp.specs.declared.section.media_line.MediaLine.{MediaLine}
use Rattle.str0m_values.specs.ShortText.{IsLongestShortText}

-- an INIT chunk in base 64
abbrev pub sctp_init_of : MediaAttribute → Option (List ℕ)
sctp_init_of (media.SctpInit text) = Some text
sctp_init_of _ = None

-- the first of a section
abbrev pub section_sctp_init : MediaLine → Option (List ℕ)
section_sctp_init m = first (filter_map sctp_init_of m.attrs)

-- the stream and the track (RFC 8830, section 2)
abbrev pub msid_of : MediaAttribute → Option Msid
msid_of (media.Msid msid) = Some msid
msid_of _ = None

-- the most bytes that a message may have (RFC 8841, section 6)
abbrev pub section_max_message_size_of : MediaAttribute → Option ℕ
section_max_message_size_of (media.MaxMessageSize size) = Some size
section_max_message_size_of _ = None

-- the layers (RFC 8853, section 5.1)
abbrev pub simulcast_of : MediaAttribute → Option Simulcast
simulcast_of (media.Simulcast simulcast) = Some simulcast
simulcast_of _ = None

-- the number of a header extension, and the extension (RFC 8285, section 5)
abbrev pub ext_map_of : MediaAttribute → Option (ℕ × Extension)
ext_map_of (media.ExtMap id ext) = Some (id, ext)
ext_map_of _ = None

-- an extension that is lent
abbrev pub ext_map_at : ℕ × Bor Extension → ℕ × Extension
ext_map_at lent = (lent.0, lent.1.now)

-- the name of a stream that may be restricted (RFC 8851, section 4)
abbrev pub rid_name_of : MediaAttribute → Option (List ℕ)
rid_name_of (media.Rid id direction pts restrictions) = Some id.0
rid_name_of _ = None

-- the rid that keeps of a name what has room in it: all of a name of at most 16 bytes, else its
-- longest beginning of at most 16 bytes that ends between characters
abbrev pub IsRidOf : List ℕ → List ℕ → Type 0
IsRidOf name rid = IsLongestShortText 16 name rid × (length name ≤ 16 → rid ≡ name)
