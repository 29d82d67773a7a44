-- The attribute lines that describe a row: a codec with its format, its feedback and its payload types.
use Rattle.std.specs.Prelude.{◌≡◌, ℕ, Bool, true, false, List, [], ◌∷◌, ◌++◌, Option, Some, None}
use Rattle.str0m_formats.specs.declared.codec.Codec.TheVariants as codec
use Rattle.str0m_formats.specs.declared.format.format_param.FormatParam.TheVariants.{TelephoneEvents, Apt, Red}
use Rattle.str0m_formats.specs.round.Narrowing.{telephone_max}
use Rattle.str0m_sdp.specs.Prelude.{Codec, FormatParam, FormatParams, PayloadParams, params_of, codec_rtp_rate}
use Rattle.str0m_sdp.specs.attribute.RtpMap.{map_of_spec}
use Rattle.str0m_sdp.specs.declared.attribute.MediaAttribute.{MediaAttribute}
use Rattle.str0m_sdp.specs.declared.attribute.MediaAttribute.TheVariants.{RtpMap, RtcpFb, Fmtp}
use Rattle.str0m_sdp.specs.declared.label.TheConstants.{TRANSPORT_CC, REMB, FIR, NACK, PLI}

-- a line of feedback where it is on (RFC 4585, section 4.2)
abbrev pub feedback_line : ℕ → List ℕ → Bool → List MediaAttribute
feedback_line pt value true = RtcpFb pt value ∷ []
feedback_line pt value false = []

-- transport-wide congestion control, the receiver's estimate of the bitrate, full intra requests (RFC 5104, section
-- 7.1), generic NACK and picture loss indication (RFC 4585, section 4.2)
abbrev pub feedback_attrs : PayloadParams → List MediaAttribute
feedback_attrs row =
    feedback_line row.pt TRANSPORT_CC.now row.fb_transport_cc
    ++ (feedback_line row.pt REMB.now row.fb_remb
    ++ (feedback_line row.pt FIR.now row.fb_fir
    ++ (feedback_line row.pt NACK.now row.fb_nack
    ++ feedback_line row.pt PLI.now row.fb_pli)))

-- one fmtp line (RFC 8866, section 6.15), and none without values
abbrev pub fmtp_line : ℕ → List FormatParam → List MediaAttribute
fmtp_line pt [] = []
fmtp_line pt (value ∷ values) = Fmtp pt (value ∷ values) ∷ []

-- the values of a format: of telephone events the highest (RFC 4733, section 2.4.1), else the parameters that are given
abbrev pub format_values : Codec → FormatParams → List FormatParam
format_values codec.Tele format = TelephoneEvents (telephone_max format) ∷ []
format_values _ format = params_of format

abbrev pub format_attrs : PayloadParams → List MediaAttribute
format_attrs row = fmtp_line row.pt (format_values row.spec.codec row.spec.format)

-- retransmissions: a mapping at the row's clock rate, and the primary type (RFC 4588, section 8.1)
abbrev pub rtx_lines : PayloadParams → Option ℕ → List MediaAttribute
rtx_lines row None = []
rtx_lines row (Some pt) =
    RtpMap pt (record { codec = codec.Rtx; clock_rate = codec_rtp_rate row.spec.codec row.spec.clock_rate; channels = None })
    ∷ (Fmtp pt (Apt row.pt ∷ []) ∷ [])

abbrev pub rtx_attrs : PayloadParams → List MediaAttribute
rtx_attrs row = rtx_lines row row.resend

-- the redundant form: a mapping at the row's clock rate with its channels, and the primary type (RFC 2198, section 5)
abbrev pub red_lines : PayloadParams → Option ℕ → List MediaAttribute
red_lines row None = []
red_lines row (Some pt) =
    RtpMap pt (record { codec = codec.Red; clock_rate = codec_rtp_rate row.spec.codec row.spec.clock_rate; channels = row.spec.channels })
    ∷ (Fmtp pt (Red row.pt ∷ []) ∷ [])

abbrev pub red_attrs : PayloadParams → List MediaAttribute
red_attrs row = red_lines row row.red

-- the lines of a row: its mapping (RFC 8866, section 6.6), feedback and format, its RTX and its RED
abbrev pub row_attrs : PayloadParams → List MediaAttribute
row_attrs row =
    RtpMap row.pt (map_of_spec row.spec)
    ∷ (feedback_attrs row ++ (format_attrs row ++ (rtx_attrs row ++ red_attrs row)))

-- the second list begins with the first
abbrev pub AppendsRowLines : List MediaAttribute → List MediaAttribute → Type 0
AppendsRowLines before after = (rest : List MediaAttribute) × (after ≡ before ++ rest)
