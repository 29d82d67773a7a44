-- The attributes of a section, each with the text that stands for it after `a=`.
use Rattle.std.specs.Prelude.{ℕ, true, List, [], ◌∷◌, Option, codes}
use Rattle.str0m_sdp.specs.declared.attribute.MediaAttribute.TheVariants.{Rtcp, IceUfrag, IcePwd, IceOptions, Fingerprint, Setup, Mid, SctpPort, MaxMessageSize, SctpInit, ExtMap, Msid, Candidate, RtpMap, RtcpFb, Fmtp, Rid, Simulcast, SsrcGroup, Ssrc, Unused}
use Rattle.str0m_sdp.specs.declared.label.TheConstants as label
use Rattle.str0m_signal.specs.Prelude.{FirstFit, IsLongestShortText, IsRest, MediaAttribute, text_beginning_of, is_rest, media_words, when, ◌<|>◌}
use Rattle.str0m_signal.specs.form.Fmtp.{IsFmtp}
use Rattle.str0m_signal.specs.form.FmtpReading.{fmtp_fields_read}
use Rattle.str0m_signal.specs.form.FormTable.{FormPiece, Form, own_label_form, a_text, number, two_form_pieces, tailed_form_piece, parted_form_piece, labelled_form, form_made_as, any_form, any_word_form, texts, pair_forms, IsUnusedForm, unused_read, form_first_byte, form_by_letter}
use Rattle.str0m_signal.specs.form.FormTransport.{ice_texts, candidate, fingerprint, setup}
use Rattle.str0m_signal.specs.form.Rid.{IsRid}
use Rattle.str0m_signal.specs.form.RidReading.{rid_fields_read}
use Rattle.str0m_signal.specs.form.RtpMap.{IsRtpMap}
use Rattle.str0m_signal.specs.form.RtpMapReading.{rtpmap_fields_read}
use Rattle.str0m_signal.specs.form.Simulcast.{IsSimulcast}
use Rattle.str0m_signal.specs.form.SimulcastReading.{simulcast_fields_read}
use Rattle.str0m_signal.specs.line.Lines.{IsAttributeLine}

abbrev pub media_texts : List (List ℕ × (List ℕ → MediaAttribute))
media_texts = ice_texts IceUfrag IcePwd IceOptions

abbrev pub media_pairs : List (List ℕ × (List ℕ × List ℕ → MediaAttribute))
media_pairs = (label.MSID.now, λ p. Msid (record { stream_id = p.0; track_id = p.1 })) ∷ []

abbrev pub rtcp : Form MediaAttribute
rtcp = labelled_form label.RTCP.now a_text Rtcp

-- a name, as far as it is kept
abbrev pub name : FormPiece (List ℕ)
name = record { Is = λ text mid. IsRest text × IsLongestShortText 16 text mid; read = λ text. when (is_rest text) (text_beginning_of 16 text) }

abbrev pub mid : Form MediaAttribute
mid = labelled_form label.MID.now name Mid

abbrev pub sctp_port : Form MediaAttribute
sctp_port = labelled_form label.SCTP_PORT.now (number 65535) SctpPort

abbrev pub max_message_size : Form MediaAttribute
max_message_size = labelled_form label.MAX_MESSAGE_SIZE.now (number 18446744073709551615) MaxMessageSize

abbrev pub sctp_init : Form MediaAttribute
sctp_init = labelled_form label.SCTP_INIT.now a_text SctpInit

abbrev pub ext_map : Form MediaAttribute
ext_map =
    labelled_form label.EXTMAP.now (two_form_pieces 32 (tailed_form_piece 47 (number 255)) (tailed_form_piece 32 a_text)) (λ p. ExtMap p.0 (record { uri = p.1; serialized = true }))

abbrev pub rtpmap : Form MediaAttribute
rtpmap = form_made_as (own_label_form label.RTPMAP.now (λ text p. IsRtpMap text p.0 p.1) rtpmap_fields_read) (λ p. RtpMap p.0 p.1)

abbrev pub rtcp_fb : Form MediaAttribute
rtcp_fb = labelled_form label.RTCP_FB.now (two_form_pieces 32 (number 127) a_text) (λ p. RtcpFb p.0 p.1)

abbrev pub fmtp : Form MediaAttribute
fmtp = form_made_as (own_label_form label.FMTP.now (λ text p. IsFmtp text p.0 p.1) fmtp_fields_read) (λ p. Fmtp p.0 p.1)

abbrev pub rid : Form MediaAttribute
rid = labelled_form label.RID.now (record { Is = IsRid; read = rid_fields_read }) (λ f. Rid f.0 f.1.0 f.1.1.0 f.1.1.1)

abbrev pub simulcast : Form MediaAttribute
simulcast = labelled_form label.SIMULCAST.now (record { Is = IsSimulcast; read = simulcast_fields_read }) Simulcast

abbrev pub ssrc_group : Form MediaAttribute
ssrc_group = labelled_form label.SSRC_GROUP.now (two_form_pieces 32 a_text (parted_form_piece 32 (number 4294967295))) (λ p. SsrcGroup p.0 p.1)

abbrev pub ssrc : Form MediaAttribute
ssrc = labelled_form label.SSRC.now (two_form_pieces 32 (number 4294967295) (two_form_pieces 58 a_text a_text)) (λ p. Ssrc p.0 p.1.0 p.1.1)

-- those that are neither a mapping nor a format
abbrev pub other_forms : List (Form MediaAttribute)
other_forms =
    rtcp_fb
    ∷ ext_map
    ∷ form_made_as candidate Candidate
    ∷ ssrc
    ∷ setup Setup
    ∷ ssrc_group
    ∷ texts media_texts
    ∷ form_made_as fingerprint Fingerprint
    ∷ mid
    ∷ pair_forms media_pairs
    ∷ rid
    ∷ rtcp
    ∷ simulcast
    ∷ sctp_port
    ∷ max_message_size
    ∷ sctp_init
    ∷ any_word_form media_words
    ∷ []

-- each attribute but `Unused`
abbrev pub media_forms : List (Form MediaAttribute)
media_forms = rtpmap ∷ fmtp ∷ other_forms

-- the text stands for the attribute: `Unused` only where no other form holds
abbrev pub MediaForm : List ℕ → MediaAttribute → Type 0
MediaForm = FirstFit (any_form media_forms).Is (IsUnusedForm Unused)

-- a line of a section is `a=` and the text of an attribute
abbrev pub IsMediaLine : List ℕ → MediaAttribute → Type 0
IsMediaLine = IsAttributeLine MediaForm

-- the letters with which labels begin
abbrev pub media_form_letters : List ℕ
media_form_letters = codes "cefimrs"

abbrev pub named_read : List ℕ → Option MediaAttribute
named_read text = form_by_letter media_form_letters media_forms (form_first_byte text) text

abbrev pub media_read : List ℕ → Option MediaAttribute
media_read text = named_read text <|> unused_read Unused text
