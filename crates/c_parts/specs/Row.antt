-- Rows and outcomes as C holds them.
use Rattle.c_parts.specs.declared.row.Outcome.{Outcome}
use Rattle.c_parts.specs.declared.row.Row.{Row}
use Rattle.c_parts.specs.declared.row.TheConstants.{NUMBERED_ROW_CODECS}
use Rattle.std.specs.Prelude.{ℕ, ◌+◌, ◌==◌, Bool, true, false, List, Option, Some, None, Ok, Err, find, map, if◌then◌else◌}
use Rattle.str0m_formats.specs.declared.codec.Codec.{Codec}
use Rattle.str0m_formats.specs.declared.codec.Codec.TheVariants.{Opus, PCMU, PCMA, G722, CN, AmrWb, H264, H265, H266, Vp8, Vp9, Av1, Tele, Rtx, Red, Null}
use Rattle.str0m_formats.specs.declared.round.negotiation_error.NegotiationError.TheVariants.{TypeTooLarge, ClaimedTwice, Exhausted, Memory}
use Rattle.str0m_formats.specs.declared.row.payload_params.PayloadParams.{PayloadParams}
use Rattle.str0m_formats.specs.round.RoundsRuns.{OutcomeOfRound as RoundOutcome}
use Rattle.str0m_sdp.specs.declared.section.media_line.MediaLine.{MediaLine}
use Rattle.str0m_sdp.specs.section.SectionRows.{rows}

-- the number of a codec (`zax_codec`): 0 of one that isn't known, and of one that the header has no number for
abbrev pub row_codec_number : Codec → ℕ
row_codec_number Opus = 1
row_codec_number PCMU = 2
row_codec_number PCMA = 3
row_codec_number G722 = 4
row_codec_number CN = 5
row_codec_number AmrWb = 6
row_codec_number H264 = 7
row_codec_number H265 = 8
row_codec_number H266 = 9
row_codec_number Vp8 = 10
row_codec_number Vp9 = 11
row_codec_number Av1 = 12
row_codec_number Tele = 13
row_codec_number Rtx = 14
row_codec_number Red = 15
row_codec_number Null = 16
row_codec_number other = 0

-- the codec of a number among those that are listed
abbrev pub row_codec_among : List Codec → ℕ → Option Codec
row_codec_among codecs number = find (λ codec. row_codec_number codec == number) codecs

-- the codec of a number
abbrev pub row_codec_numbered : ℕ → Option Codec
row_codec_numbered number = row_codec_among NUMBERED_ROW_CODECS number

-- a number that may not be there, and what stands in its place then
abbrev pub row_number_or : ℕ → Option ℕ → ℕ
row_number_or other (Some n) = n
row_number_or other None = other

-- what such a number says
abbrev pub row_number_unless : ℕ → ℕ → Option ℕ
row_number_unless none number = if number == none then None else Some number

-- the bit of what is on
abbrev pub bit : ℕ → Bool → ℕ
bit n true = n
bit n false = 0

-- feedback as bits (`ZAX_TRANSPORT_CC` and those after it)
abbrev pub row_feedback_bits : PayloadParams → ℕ
row_feedback_bits row = bit 1 row.fb_transport_cc + (bit 2 row.fb_nack + (bit 4 row.fb_pli + (bit 8 row.fb_fir + bit 16 row.fb_remb)))

-- a row (`zax_row`): 255 where it has no type for retransmissions or for RED, and no channels where they aren't said
abbrev pub c_row : PayloadParams → Row
c_row row = record {
  clock_rate = row.spec.clock_rate;
  pt = row.pt;
  rtx = row_number_or 255 row.resend;
  red = row_number_or 255 row.red;
  channels = row_number_or 0 row.spec.channels;
  codec = row_codec_number row.spec.codec;
  feedback = row_feedback_bits row;
  locked = bit 1 row.locked;
  reserved = 0;
}

-- the rows of a section
abbrev pub c_rows : MediaLine → List Row
c_rows section = map c_row (rows section)

-- an outcome (`zax_outcome`): its cause, and the type at fault, or 255
abbrev pub c_outcome : RoundOutcome → Outcome
c_outcome (Ok done) = record { cause = 0; pt = 255 }
c_outcome (Err (TypeTooLarge pt)) = record { cause = 1; pt = pt }
c_outcome (Err (ClaimedTwice pt)) = record { cause = 2; pt = pt }
c_outcome (Err Exhausted) = record { cause = 3; pt = 255 }
c_outcome (Err Memory) = record { cause = 4; pt = 255 }
