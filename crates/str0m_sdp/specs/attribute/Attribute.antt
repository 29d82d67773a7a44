-- What attributes print: a line for each form (RFC 8866, sections 5.13 and 6). And which of them are a word alone.
use Rattle.std.specs.Prelude.{◌<◌, ◌^◌, ℕ, Bool, true, false, List, [], ◌∷◌, ◌++◌, Option, None, All, codes, decimal, bytes_eq, IsUtf8}
use Rattle.str0m_sdp.specs.Prelude.{Direction, IsByte, candidate_text, fingerprint_text, when, ◌<|>◌}
use Rattle.str0m_sdp.specs.attribute.AttributeFits.{AreAttributeTexts, FitsCandidate, FitsFingerprint, FitsLayer, FitsParam, FitsRtpMap, IsMidText, IsPortNumber, IsSourceNumber}
use Rattle.str0m_sdp.specs.attribute.ExtMap.{ext_map_text}
use Rattle.str0m_sdp.specs.attribute.Fmtp.{fmtp_text}
use Rattle.str0m_sdp.specs.attribute.Group.{group_text, msid_semantic_text}
use Rattle.str0m_sdp.specs.attribute.Msid.{msid_text}
use Rattle.str0m_sdp.specs.attribute.Rid.{rid_text}
use Rattle.str0m_sdp.specs.attribute.RtpMap.{rtp_map_text}
use Rattle.str0m_sdp.specs.attribute.Setup.{setup_text}
use Rattle.str0m_sdp.specs.attribute.Simulcast.{simulcast_text}
use Rattle.str0m_sdp.specs.attribute.SsrcGroup.{ssrc_group_text}
use Rattle.str0m_sdp.specs.declared.attribute.MediaAttribute.{MediaAttribute}
use Rattle.str0m_sdp.specs.declared.attribute.MediaAttribute.TheVariants as media
use Rattle.str0m_sdp.specs.declared.attribute.SessionAttribute.{SessionAttribute}
use Rattle.str0m_sdp.specs.declared.attribute.SessionAttribute.TheVariants as session
use Rattle.str0m_sdp.specs.declared.label.TheConstants as label
use Rattle.str0m_sdp.specs.form.Printed.{attribute_line}
use Rattle.str0m_values.specs.declared.direction.Direction.TheVariants as way
use Rattle.str0m_values.specs.declared.direction_label.TheConstants as way_label

abbrev pub session_attribute_text : SessionAttribute → List ℕ
session_attribute_text (session.Group typ mids) = group_text typ mids
session_attribute_text (session.MsidSemantic semantic ids) = msid_semantic_text semantic ids
session_attribute_text session.AllowMixedExts = attribute_line label.EXTMAP_ALLOW_MIXED.now
session_attribute_text session.IceLite = attribute_line label.ICE_LITE.now
session_attribute_text (session.IceUfrag text) = attribute_line (label.ICE_UFRAG.now ++ text)
session_attribute_text (session.IcePwd text) = attribute_line (label.ICE_PWD.now ++ text)
session_attribute_text (session.IceOptions text) = attribute_line (label.ICE_OPTIONS.now ++ text)
session_attribute_text (session.Fingerprint hash) = attribute_line (label.FINGERPRINT.now ++ fingerprint_text hash)
session_attribute_text (session.Setup setup) = attribute_line (label.SETUP.now ++ setup_text setup)
session_attribute_text (session.Candidate candidate) = attribute_line (candidate_text candidate)
session_attribute_text session.EndOfCandidates = attribute_line label.END_OF_CANDIDATES.now
session_attribute_text (session.Unused text) = attribute_line text

abbrev pub media_attribute_text : MediaAttribute → List ℕ
media_attribute_text (media.Rtcp text) = attribute_line (label.RTCP.now ++ text)
media_attribute_text (media.IceUfrag text) = attribute_line (label.ICE_UFRAG.now ++ text)
media_attribute_text (media.IcePwd text) = attribute_line (label.ICE_PWD.now ++ text)
media_attribute_text (media.IceOptions text) = attribute_line (label.ICE_OPTIONS.now ++ text)
media_attribute_text (media.Fingerprint hash) = attribute_line (label.FINGERPRINT.now ++ fingerprint_text hash)
media_attribute_text (media.Setup setup) = attribute_line (label.SETUP.now ++ setup_text setup)
media_attribute_text (media.Mid mid) = attribute_line (label.MID.now ++ mid)
media_attribute_text (media.SctpPort port) = attribute_line (label.SCTP_PORT.now ++ decimal port)
media_attribute_text (media.MaxMessageSize size) = attribute_line (label.MAX_MESSAGE_SIZE.now ++ decimal size)
media_attribute_text (media.SctpInit text) = attribute_line (label.SCTP_INIT.now ++ text)
media_attribute_text (media.ExtMap id ext) = ext_map_text id ext
media_attribute_text media.RecvOnly = attribute_line way_label.RECV_ONLY.now
media_attribute_text media.SendRecv = attribute_line way_label.SEND_RECV.now
media_attribute_text media.SendOnly = attribute_line way_label.SEND_ONLY.now
media_attribute_text media.Inactive = attribute_line way_label.INACTIVE.now
media_attribute_text (media.Msid msid) = attribute_line (label.MSID.now ++ msid_text msid)
media_attribute_text media.RtcpMux = attribute_line label.RTCP_MUX.now
media_attribute_text media.RtcpMuxOnly = attribute_line label.RTCP_MUX_ONLY.now
media_attribute_text media.RtcpRsize = attribute_line label.RTCP_RSIZE.now
media_attribute_text (media.Candidate candidate) = attribute_line (candidate_text candidate)
media_attribute_text media.EndOfCandidates = attribute_line label.END_OF_CANDIDATES.now
media_attribute_text (media.RtpMap pt value) = attribute_line (label.RTPMAP.now ++ (decimal pt ++ (codes " " ++ rtp_map_text value)))
media_attribute_text (media.RtcpFb pt value) = attribute_line (label.RTCP_FB.now ++ (decimal pt ++ (codes " " ++ value)))
media_attribute_text (media.Fmtp pt values) = fmtp_text pt values
media_attribute_text (media.Rid id direction pts restrictions) = rid_text id direction pts restrictions
media_attribute_text (media.Simulcast simulcast) = simulcast_text simulcast
media_attribute_text (media.SsrcGroup semantics ssrcs) = ssrc_group_text semantics ssrcs
media_attribute_text (media.Ssrc ssrc attr value) = attribute_line (label.SSRC.now ++ (decimal ssrc ++ (codes " " ++ (attr ++ (codes ":" ++ value)))))
media_attribute_text (media.Unused text) = attribute_line text

-- ---- what follows the `a=` of a line

-- of a session's a text alone: a word, or all of what isn't known
abbrev pub is_session_text_alone : SessionAttribute → Bool
is_session_text_alone session.AllowMixedExts = true
is_session_text_alone session.IceLite = true
is_session_text_alone session.EndOfCandidates = true
is_session_text_alone (session.Unused text) = true
is_session_text_alone _ = false

-- of a session's more than texts
abbrev pub has_session_values : SessionAttribute → Bool
has_session_values (session.Group typ mids) = true
has_session_values (session.MsidSemantic semantic ids) = true
has_session_values (session.Fingerprint hash) = true
has_session_values (session.Setup setup) = true
has_session_values (session.Candidate candidate) = true
has_session_values _ = false

-- of a section's a text alone
abbrev pub is_media_text_alone : MediaAttribute → Bool
is_media_text_alone media.RecvOnly = true
is_media_text_alone media.SendRecv = true
is_media_text_alone media.SendOnly = true
is_media_text_alone media.Inactive = true
is_media_text_alone media.RtcpMux = true
is_media_text_alone media.RtcpMuxOnly = true
is_media_text_alone media.RtcpRsize = true
is_media_text_alone media.EndOfCandidates = true
is_media_text_alone (media.Unused text) = true
is_media_text_alone _ = false

-- of a section's a label and one value, which is no plain text
abbrev pub has_one_media_value : MediaAttribute → Bool
has_one_media_value (media.Fingerprint hash) = true
has_one_media_value (media.Setup setup) = true
has_one_media_value (media.Mid mid) = true
has_one_media_value (media.SctpPort port) = true
has_one_media_value (media.MaxMessageSize size) = true
has_one_media_value (media.Msid msid) = true
has_one_media_value (media.Candidate candidate) = true
has_one_media_value _ = false

-- of a section's a label and many values
abbrev pub has_many_media_values : MediaAttribute → Bool
has_many_media_values (media.ExtMap id ext) = true
has_many_media_values (media.RtpMap pt value) = true
has_many_media_values (media.RtcpFb pt value) = true
has_many_media_values (media.Fmtp pt values) = true
has_many_media_values (media.Rid id direction pts restrictions) = true
has_many_media_values (media.Simulcast simulcast) = true
has_many_media_values (media.SsrcGroup semantics ssrcs) = true
has_many_media_values (media.Ssrc ssrc attr value) = true
has_many_media_values _ = false

-- the attribute of a direction (RFC 8866, section 6.7)
abbrev pub direction_attribute : Direction → MediaAttribute
direction_attribute way.SendRecv = media.SendRecv
direction_attribute way.SendOnly = media.SendOnly
direction_attribute way.RecvOnly = media.RecvOnly
direction_attribute way.Inactive = media.Inactive

-- ---- attributes that are a word alone

abbrev pub session_words : List (List ℕ × SessionAttribute)
session_words =
    (label.EXTMAP_ALLOW_MIXED.now, session.AllowMixedExts)
    ∷ (label.ICE_LITE.now, session.IceLite)
    ∷ (label.END_OF_CANDIDATES.now, session.EndOfCandidates)
    ∷ []

abbrev pub media_words : List (List ℕ × MediaAttribute)
media_words =
    (way_label.RECV_ONLY.now, media.RecvOnly)
    ∷ (way_label.SEND_RECV.now, media.SendRecv)
    ∷ (way_label.SEND_ONLY.now, media.SendOnly)
    ∷ (way_label.INACTIVE.now, media.Inactive)
    ∷ (label.RTCP_MUX.now, media.RtcpMux)
    ∷ (label.RTCP_MUX_ONLY.now, media.RtcpMuxOnly)
    ∷ (label.RTCP_RSIZE.now, media.RtcpRsize)
    ∷ (label.END_OF_CANDIDATES.now, media.EndOfCandidates)
    ∷ []

-- what a text stands for that is one of these words
abbrev pub attribute_word_read : {A : Type 0} → List (List ℕ × A) → List ℕ → Option A
attribute_word_read [] text = None
attribute_word_read (row ∷ []) text = when (bytes_eq text row.0) row.1
attribute_word_read (row ∷ other ∷ rows) text = when (bytes_eq text row.0) row.1 <|> attribute_word_read (other ∷ rows) text

-- ---- which values fit their types

abbrev pub FitsSessionAttribute : SessionAttribute → Type 0
FitsSessionAttribute (session.Group typ mids) = IsUtf8 typ × All IsMidText mids
FitsSessionAttribute (session.MsidSemantic semantic ids) = IsUtf8 semantic × All IsUtf8 ids
FitsSessionAttribute (session.IceUfrag text) = IsUtf8 text
FitsSessionAttribute (session.IcePwd text) = IsUtf8 text
FitsSessionAttribute (session.IceOptions text) = IsUtf8 text
FitsSessionAttribute (session.Fingerprint hash) = FitsFingerprint hash
FitsSessionAttribute (session.Candidate candidate) = FitsCandidate candidate
FitsSessionAttribute (session.Unused text) = IsUtf8 text
FitsSessionAttribute _ = Unit {0}

abbrev pub FitsMediaAttribute : MediaAttribute → Type 0
FitsMediaAttribute (media.Rtcp text) = IsUtf8 text
FitsMediaAttribute (media.IceUfrag text) = IsUtf8 text
FitsMediaAttribute (media.IcePwd text) = IsUtf8 text
FitsMediaAttribute (media.IceOptions text) = IsUtf8 text
FitsMediaAttribute (media.Fingerprint hash) = FitsFingerprint hash
FitsMediaAttribute (media.Mid mid) = IsMidText mid
FitsMediaAttribute (media.SctpPort port) = IsPortNumber port
FitsMediaAttribute (media.MaxMessageSize size) = size < 2 ^ 64
FitsMediaAttribute (media.SctpInit text) = IsUtf8 text
FitsMediaAttribute (media.ExtMap id ext) = IsByte id × IsUtf8 ext.uri
FitsMediaAttribute (media.Msid msid) = IsUtf8 msid.stream_id × IsUtf8 msid.track_id
FitsMediaAttribute (media.Candidate candidate) = FitsCandidate candidate
FitsMediaAttribute (media.RtpMap pt value) = IsByte pt × FitsRtpMap value
FitsMediaAttribute (media.RtcpFb pt value) = IsByte pt × IsUtf8 value
FitsMediaAttribute (media.Fmtp pt values) = IsByte pt × All FitsParam values
FitsMediaAttribute (media.Rid id direction pts restrictions) =
    IsUtf8 id.0 × IsUtf8 direction × All IsByte pts × All AreAttributeTexts restrictions
FitsMediaAttribute (media.Simulcast simulcast) = All FitsLayer simulcast.send.0 × All FitsLayer simulcast.recv.0
FitsMediaAttribute (media.SsrcGroup semantics ssrcs) = IsUtf8 semantics × All IsSourceNumber ssrcs
FitsMediaAttribute (media.Ssrc ssrc attr value) = IsSourceNumber ssrc × IsUtf8 attr × IsUtf8 value
FitsMediaAttribute (media.Unused text) = IsUtf8 text
FitsMediaAttribute _ = Unit {0}
