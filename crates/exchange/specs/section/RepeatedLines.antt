-- The lines that an answer says only where the offer does.
use Rattle.exchange.specs.Prelude.{MediaAttribute, MediaLine}
use Rattle.std.specs.List.{list_any}
use Rattle.std.specs.Prelude.{ℕ, Bool, true, false, List, bytes_eq, filter}
use Rattle.str0m_sdp.specs.declared.attribute.MediaAttribute.TheVariants.{RtcpMux, RtcpRsize, ExtMap, Unused}
use Rattle.str0m_sdp.specs.declared.label.TheConstants.{EXTMAP_ALLOW_MIXED}

-- one port for RTP and RTCP (RFC 5761, section 5.1.1), RTCP of reduced size (RFC 5506, section 5), an extension that this side
-- knows by its URI, and short and long extensions mixed (RFC 8285, section 6), a line that is kept unread
abbrev pub is_repeated : List (List ℕ) → MediaAttribute → Bool
is_repeated known RtcpMux = true
is_repeated known RtcpRsize = true
is_repeated known (ExtMap id ext) = list_any (λ uri. bytes_eq uri ext.uri) known
is_repeated known (Unused text) = bytes_eq text EXTMAP_ALLOW_MIXED.now
is_repeated known _ = false

-- those of a section, in order
abbrev pub repeated_lines : List (List ℕ) → MediaLine → List MediaAttribute
repeated_lines known offered = filter (is_repeated known) offered.attrs
