-- What the private records of the code say, as the grammar has it.
use Rattle.std.specs.Borrow.{Bor}
use Rattle.std.specs.Prelude.{ℕ, List}
use Rattle.str0m_sdp.specs.declared.attribute.media_type.MediaType.TheVariants as typ
use Rattle.str0m_signal.specs.Prelude.{MediaType}
use Rattle.str0m_signal.specs.declared.line.heads.HeadKind.{HeadKind}
use Rattle.str0m_signal.specs.declared.line.heads.HeadKind.TheVariants.{Audio, Video, Application, Unknown}
use Rattle.str0m_signal.specs.declared.line.heads.MediaHead.{MediaHead}
use Rattle.str0m_signal.specs.declared.session.header.SessionHead.{SessionHead}
use Rattle.str0m_signal.specs.line.Lines.{Line}
use Rattle.str0m_signal.specs.line.LinesReading.{lines_of}
use Rattle.str0m_signal.specs.session.Header.{Header}
use Rattle.str0m_signal.specs.session.Section.{Head}

abbrev pub head_kind_is : HeadKind → MediaType
head_kind_is Audio = typ.Audio
head_kind_is Video = typ.Video
head_kind_is Application = typ.Application
head_kind_is (Unknown text) = typ.Unknown text.now

abbrev pub media_head : MediaHead → Head
media_head head = record { typ = head.typ; disabled = head.disabled; proto = head.proto; pts = head.pts }

abbrev pub media_head_left : MediaHead × Bor (List ℕ) → Head × List Line
media_head_left found = (media_head found.0, lines_of found.1.now)

abbrev pub session_head : SessionHead × Bor (List ℕ) → Header × Bor (List ℕ)
session_head found = (record { id = found.0.id; bw = found.0.bw }, found.1)
