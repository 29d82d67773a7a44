-- The section that rows make of a frame.
use Rattle.std.specs.Prelude.{Bool, true, false, not, List, ◌++◌, filter, flat_map}
use Rattle.str0m_sdp.specs.Prelude.{PayloadParams, types}
use Rattle.str0m_sdp.specs.declared.attribute.MediaAttribute.{MediaAttribute}
use Rattle.str0m_sdp.specs.declared.attribute.MediaAttribute.TheVariants.{RtpMap, RtcpFb, Fmtp}
use Rattle.str0m_sdp.specs.declared.section.media_line.MediaLine.{MediaLine}
use Rattle.str0m_sdp.specs.section.RowAttributes.{row_attrs}

-- the attributes that describe a payload type: rtpmap, rtcp-fb and fmtp lines (RFC 8866, section 6.6; RFC 4585, section
-- 4.2; RFC 8866, section 6.15)
abbrev pub is_of_type : MediaAttribute → Bool
is_of_type (RtpMap pt value) = true
is_of_type (RtcpFb pt value) = true
is_of_type (Fmtp pt values) = true
is_of_type _ = false

-- the frame with the payload types of the rows, and their lines after the frame's own, of which those stay that
-- describe no payload type
abbrev pub made : MediaLine → List PayloadParams → MediaLine
made frame rows = record frame {
  pts = types rows;
  attrs = filter (λ attr. not (is_of_type attr)) frame.attrs ++ flat_map row_attrs rows;
}
