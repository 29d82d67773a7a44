-- The sections of an offer of this side (RFC 8829, sections 5.2.1 and 5.2.2).
use Rattle.exchange.specs.Prelude.{Direction, MediaAttribute, MediaKind, MediaLine, MediaType, Proto, direction_attribute, kind_rows, made}
use Rattle.exchange.specs.answer.Accepted.{candidate_line, accepted_channel_lines, accepted_first_lines, msid_lines}
use Rattle.exchange.specs.answer.RejectedSection.{rejecting}
use Rattle.exchange.specs.declared.offer.added.Added.{Added}
use Rattle.exchange.specs.declared.offer.added.Added.TheVariants as added
use Rattle.exchange.specs.declared.offer.added.AddedUnderMid.{AddedUnderMid}
use Rattle.exchange.specs.declared.state.exchange.Exchange.{Exchange}
use Rattle.exchange.specs.declared.state.own_side.DataChannels.{DataChannels}
use Rattle.exchange.specs.declared.state.own_side.OwnSide.{OwnSide}
use Rattle.exchange.specs.declared.state.own_side.SectionDirection.{SectionDirection}
use Rattle.exchange.specs.section.Stopped.{name_of}
use Rattle.exchange.specs.state.OwnSide.{direction_among}
use Rattle.std.specs.List.{list_any}
use Rattle.std.specs.Prelude.{◌==◌, ◌&&◌, ◌||◌, ℕ, Bool, true, false, List, [], ◌∷◌, ◌++◌, Option, Some, None, bytes_eq, filter, map}
use Rattle.str0m_sdp.specs.declared.attribute.MediaAttribute.TheVariants as media
use Rattle.str0m_sdp.specs.declared.attribute.media_type.MediaType.TheVariants.{Audio, Video, Application}
use Rattle.str0m_sdp.specs.declared.attribute.proto.Proto.TheVariants.{Srtp, Sctp}
use Rattle.str0m_sdp.specs.declared.attribute.setup.Setup.TheVariants.{ActPass}
use Rattle.str0m_sdp.specs.declared.label.TheConstants.{EXTMAP_ALLOW_MIXED}
use Rattle.str0m_values.specs.declared.media_kind.MediaKind.TheVariants as kind

-- ---- what is offered

-- a section with a port, with these lines
abbrev pub section_with : MediaType → Proto → List MediaAttribute → MediaLine
section_with typ proto lines = record { typ = typ; disabled = false; proto = proto; pts = []; bw = None; attrs = lines }

abbrev pub offer_type_of_kind : MediaKind → MediaType
offer_type_of_kind kind.Audio = Audio
offer_type_of_kind kind.Video = Video

-- what media says but for its rows, after its name and its transport: its direction, where this side is reached, what both
-- sides have to agree on, and its track
abbrev pub offer_flow_lines : OwnSide → List ℕ → Direction → List MediaAttribute → List MediaAttribute
offer_flow_lines own mid direction asked = direction_attribute direction ∷ [] ++ map candidate_line own.candidates ++ asked ++ msid_lines own direction mid

-- media over RTP, in any role, with the rows of its kind, in the direction that these entries say this side is ready for
abbrev pub offered_media : Exchange → List SectionDirection → MediaKind → List ℕ → List MediaAttribute → MediaLine
offered_media old ready kind mid asked =
    made (section_with (offer_type_of_kind kind) Srtp (accepted_first_lines old.own mid ActPass
    ++ offer_flow_lines old.own mid (direction_among old.own ready (Some mid) (offer_type_of_kind kind)) asked)) (kind_rows kind true old.config.params.items)

-- data channels over SCTP, in any role; a side that takes none rejects them
abbrev pub offered_channels : OwnSide → MediaLine → List ℕ → Option DataChannels → MediaLine
offered_channels own instead mid None = rejecting instead
offered_channels own instead mid (Some channels) =
    section_with Application Sctp (accepted_first_lines own mid ActPass ++ accepted_channel_lines channels ++ map candidate_line own.candidates)

-- ---- what is added

-- RTP and RTCP on one port (RFC 5761, section 5.1.1), RTCP of reduced size (RFC 5506, section 5), and header extensions
abbrev pub asked_section_lines : List MediaAttribute → List MediaAttribute
asked_section_lines extensions = media.RtcpMux ∷ (media.RtcpRsize ∷ extensions)

abbrev pub section_for : Exchange → List SectionDirection → List MediaAttribute → List ℕ → Added → MediaLine
section_for old ready extensions mid (added.Media kind direction) = offered_media old ready kind mid (asked_section_lines extensions)
section_for old ready extensions mid added.Channels = offered_channels old.own (section_with Application Sctp (media.Mid mid ∷ [])) mid old.own.channels

abbrev pub new_section : Exchange → List SectionDirection → List MediaAttribute → AddedUnderMid → MediaLine
new_section old ready extensions placed = section_for old ready extensions placed.mid placed.added

-- ---- what goes on

-- the lines that both sides have to say
abbrev pub is_offer_mux_line : MediaAttribute → Bool
is_offer_mux_line media.RtcpMux = true
is_offer_mux_line _ = false

abbrev pub is_offer_rsize_line : MediaAttribute → Bool
is_offer_rsize_line media.RtcpRsize = true
is_offer_rsize_line _ = false

abbrev pub is_extension : ℕ → List ℕ → MediaAttribute → Bool
is_extension number uri (media.ExtMap id ext) = id == number && bytes_eq ext.uri uri
is_extension number uri _ = false

abbrev pub is_same_shared_offer_line : MediaAttribute → MediaAttribute → Bool
is_same_shared_offer_line media.RtcpMux other = is_offer_mux_line other
is_same_shared_offer_line media.RtcpRsize other = is_offer_rsize_line other
is_same_shared_offer_line (media.ExtMap id ext) other = is_extension id ext.uri other
is_same_shared_offer_line _ other = false

abbrev pub is_offer_line_said_by_theirs : Option MediaLine → MediaAttribute → Bool
is_offer_line_said_by_theirs None line = false
is_offer_line_said_by_theirs (Some theirs) line = list_any (is_same_shared_offer_line line) theirs.attrs

-- those that this side says alone: its layers (RFC 8851; RFC 8853), and that extensions of both lengths may be mixed (RFC 8285,
-- section 6)
abbrev pub is_own : MediaAttribute → Bool
is_own (media.Rid id direction pts restrictions) = true
is_own (media.Simulcast layers) = true
is_own (media.Unused text) = bytes_eq text EXTMAP_ALLOW_MIXED.now
is_own _ = false

-- what this side said last and goes on saying: of what both have to say, what both said
abbrev pub is_offer_line_said_again : Option MediaLine → MediaAttribute → Bool
is_offer_line_said_again theirs line = is_offer_line_said_by_theirs theirs line || is_own line

abbrev pub kept_section_lines : Option MediaLine → MediaLine → List MediaAttribute
kept_section_lines theirs mine = filter (is_offer_line_said_again theirs) mine.attrs

-- by its name, its type and its protocol, which stay (RFC 3264, section 8; RFC 8829, section 5.2.2)
abbrev pub section_by : Exchange → List SectionDirection → Option MediaLine → MediaLine → Option (List ℕ) → MediaType → Proto → MediaLine
section_by old ready theirs mine (Some mid) Audio Srtp = offered_media old ready kind.Audio mid (kept_section_lines theirs mine)
section_by old ready theirs mine (Some mid) Video Srtp = offered_media old ready kind.Video mid (kept_section_lines theirs mine)
section_by old ready theirs mine (Some mid) Application Sctp = offered_channels old.own mine mid old.own.channels
section_by old ready theirs mine _ _ _ = rejecting mine

abbrev pub next_section : Exchange → List SectionDirection → Option MediaLine → MediaLine → MediaLine
next_section old ready theirs mine = section_by old ready theirs mine (name_of mine) mine.typ mine.proto
