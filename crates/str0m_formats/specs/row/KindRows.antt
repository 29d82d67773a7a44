-- The rows of a kind of media.
use Rattle.std.specs.List.{list_any}
use Rattle.std.specs.Prelude.{◌==◌, ℕ, Bool, true, false, ◌&&◌, ◌||◌, not, List, filter}
use Rattle.str0m_formats.specs.Prelude.{MediaKind}
use Rattle.str0m_formats.specs.codec.Codec.{CodecContent, codec_content, audio}
use Rattle.str0m_formats.specs.codec.CodecSpec.{codec_rtp_rate}
use Rattle.str0m_formats.specs.declared.row.kind_rows.KindRows.{KindRows}
use Rattle.str0m_formats.specs.declared.row.payload_params.PayloadParams.{PayloadParams}
use Rattle.str0m_formats.specs.round.Choices.{has_events}
use Rattle.str0m_formats.specs.row.PayloadParams.{row_content_has_video}
use Rattle.str0m_values.specs.declared.media_kind.MediaKind.TheVariants.{Audio, Video}

abbrev pub row_content_has_audio : CodecContent → Bool
row_content_has_audio audio = true
row_content_has_audio _ = false

-- whether a row carries audio, video, telephone events
abbrev pub is_audio : PayloadParams → Bool
is_audio row = row_content_has_audio (codec_content row.spec.codec)

abbrev pub is_video : PayloadParams → Bool
is_video row = row_content_has_video (codec_content row.spec.codec)

abbrev pub is_events : PayloadParams → Bool
is_events row = has_events (codec_content row.spec.codec)

-- whether the timestamps of the row count at the rate of some audio row
abbrev pub row_rtp_rate : PayloadParams → ℕ
row_rtp_rate row = codec_rtp_rate row.spec.codec row.spec.clock_rate

abbrev pub row_shares_rate : List PayloadParams → PayloadParams → Bool
row_shares_rate rows row = list_any (λ other. is_audio other && row_rtp_rate other == row_rtp_rate row) rows

-- whether some row of events does so
abbrev pub some_row_shares_rate : List PayloadParams → Bool
some_row_shares_rate rows = list_any (λ row. is_events row && row_shares_rate rows row) rows

-- whether events are listed only at rates of audio: in a new offer, where some stand at one
abbrev pub is_narrowed : Bool → List PayloadParams → Bool
is_narrowed for_new_offer rows = for_new_offer && some_row_shares_rate rows

-- whether a row stands in a section of the kind
abbrev pub is_in_kind : MediaKind → Bool → List PayloadParams → PayloadParams → Bool
is_in_kind Video narrowed rows row = is_video row
is_in_kind Audio narrowed rows row = is_audio row || (is_events row && (not narrowed || row_shares_rate rows row))

-- the rows of a kind, in order
abbrev pub kind_rows : MediaKind → Bool → List PayloadParams → List PayloadParams
kind_rows kind for_new_offer rows = filter (is_in_kind kind (is_narrowed for_new_offer rows) rows) rows

-- the rows that are still to come
abbrev pub rows_left : KindRows → List PayloadParams
rows_left s = filter (is_in_kind s.kind s.narrowed s.all.now) s.rest.now
