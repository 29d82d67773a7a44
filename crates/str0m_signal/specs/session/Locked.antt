-- The rows that rounds have locked.
use Rattle.std.specs.Prelude.{Bool, ◌&&◌, ◌||◌, List, filter}
use Rattle.str0m_formats.specs.row.KindRows.{is_audio, is_video, is_events}
use Rattle.str0m_signal.specs.Prelude.{MediaKind, PayloadParams}
use Rattle.str0m_values.specs.declared.media_kind.MediaKind.TheVariants.{Audio, Video}

-- whether sections of the kind carry what the row is of
abbrev pub is_carried_by_section : MediaKind → PayloadParams → Bool
is_carried_by_section Video row = is_video row
is_carried_by_section Audio row = is_audio row || is_events row

-- the locked rows of a kind, in order
abbrev pub locked_of_kind : MediaKind → List PayloadParams → List PayloadParams
locked_of_kind kind rows = filter (λ row. row.locked && is_carried_by_section kind row) rows
