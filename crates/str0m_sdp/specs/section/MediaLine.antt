-- What sections print (RFC 8866, section 5.14).
use Rattle.std.specs.List.{join_by}
use Rattle.std.specs.Prelude.{ℕ, Bool, true, false, List, [], ◌∷◌, ◌++◌, codes, decimal, flat_map}
use Rattle.str0m_sdp.specs.attribute.Attribute.{media_attribute_text}
use Rattle.str0m_sdp.specs.attribute.Bandwidth.{bandwidth_line}
use Rattle.str0m_sdp.specs.attribute.MediaType.{media_type_text}
use Rattle.str0m_sdp.specs.attribute.Proto.{proto_text}
use Rattle.str0m_sdp.specs.declared.attribute.media_type.MediaType.{MediaType}
use Rattle.str0m_sdp.specs.declared.attribute.media_type.MediaType.TheVariants.{Audio, Video, Application, Unknown}
use Rattle.str0m_sdp.specs.declared.section.media_line.MediaLine.{MediaLine}
use Rattle.str0m_sdp.specs.form.Printed.{printed_line_end}

-- 0 for a section that is rejected or stopped (RFC 8829, section 5.3.1), else the discard port,
-- since ICE finds the port (RFC 8829, section 5.2.1)
abbrev pub port_text : Bool → List ℕ
port_text true = codes "0"
port_text false = codes "9"

-- payload types parted by spaces, and 0 where there is none
abbrev pub m_line_pts_text : List ℕ → List ℕ
m_line_pts_text [] = codes "0"
m_line_pts_text (pt ∷ pts) = join_by decimal (codes " ") (pt ∷ pts)

-- the formats of an m-line: a data channel for application sections (RFC 8841, section 4.3), else
-- payload types
abbrev pub formats_text : MediaType → List ℕ → List ℕ
formats_text Application pts = codes "webrtc-datachannel"
formats_text Audio pts = m_line_pts_text pts
formats_text Video pts = m_line_pts_text pts
formats_text (Unknown text) pts = m_line_pts_text pts

-- media type, port, protocol, formats
abbrev pub m_line : MediaLine → List ℕ
m_line m =
    codes "m=" ++ (media_type_text m.typ ++ (codes " " ++ (port_text m.disabled ++ (codes " "
    ++ (proto_text m.proto ++ (codes " " ++ (formats_text m.typ m.pts ++ printed_line_end)))))))

-- the m-line, a `c=` line without an address (RFC 8829, section 5.2.1), bandwidth, attributes
abbrev pub media_line_text : MediaLine → List ℕ
media_line_text m =
    m_line m ++ (codes "c=IN IP4 0.0.0.0" ++ (printed_line_end
    ++ (bandwidth_line m.bw ++ flat_map media_attribute_text m.attrs)))
