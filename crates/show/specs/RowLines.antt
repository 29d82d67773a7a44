-- The lines of `sdpshow rows`.
use Rattle.std.specs.Prelude.{ℕ, List, [], ◌∷◌, ◌++◌, Option, Some, None, codes, filter_map, decimal, flat_map, unwrap_or}
use Rattle.str0m_formats.specs.declared.row.payload_params.PayloadParams.{PayloadParams}
use Rattle.str0m_formats.specs.format.FormatParams.{params_text}
use Rattle.str0m_sdp.specs.Common.{first}
use Rattle.str0m_sdp.specs.attribute.RtpMap.{rtp_map_text}
use Rattle.str0m_sdp.specs.declared.section.media_line.MediaLine.{MediaLine}
use Rattle.str0m_sdp.specs.declared.session.Sdp.{Sdp}
use Rattle.str0m_sdp.specs.section.Consistency.{mid_of}
use Rattle.str0m_sdp.specs.section.SectionRows.{rows}

-- a text, and `-` for one that is absent or empty
abbrev pub row_text_or_dash : List ℕ → List ℕ
row_text_or_dash [] = codes "-"
row_text_or_dash (c ∷ text) = c ∷ text

-- a payload type
abbrev pub row_type_text : Option ℕ → List ℕ
row_type_text None = codes "-"
row_type_text (Some pt) = decimal pt

-- the codec, its rate in Hz and its channels, as an rtpmap line has them but at the codec's own rate
abbrev pub row_codec_text : PayloadParams → List ℕ
row_codec_text row = rtp_map_text (record { codec = row.spec.codec; clock_rate = row.spec.clock_rate; channels = row.spec.channels })

-- the mid of the section, the primary, RTX and RED type, the codec, and what the format says
abbrev pub row_fields : List ℕ → PayloadParams → List ℕ → List ℕ
row_fields mid row format =
    mid ++ (codes " " ++ (decimal row.pt ++ (codes " " ++ (row_type_text row.resend ++ (codes " " ++ (row_type_text row.red
    ++ (codes " " ++ (row_codec_text row ++ (codes " " ++ (format ++ (10 ∷ [])))))))))))

-- the section's mid
abbrev pub row_mid_text : MediaLine → List ℕ
row_mid_text m = unwrap_or (first (filter_map mid_of m.attrs)) (codes "-")

abbrev pub row_line : List ℕ → PayloadParams → List ℕ
row_line mid row = row_fields mid row (row_text_or_dash (params_text row.spec.format))

abbrev pub section_lines : MediaLine → List ℕ
section_lines m = flat_map (row_line (row_mid_text m)) (rows m)

-- the rows of all sections in order
abbrev pub rows_text : Sdp → List ℕ
rows_text sdp = flat_map section_lines sdp.media_lines
