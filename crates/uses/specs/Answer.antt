-- Which rows an answer lists in a section.
use Rattle.std.specs.Prelude.{ℕ, List, [], Option, Some, None, slice_get}
use Rattle.str0m_formats.specs.declared.row.payload_params.PayloadParams.{PayloadParams}
use Rattle.str0m_sdp.specs.declared.attribute.media_type.MediaType.{MediaType}
use Rattle.str0m_sdp.specs.declared.attribute.media_type.MediaType.TheVariants.{Audio, Video}
use Rattle.str0m_sdp.specs.declared.section.media_line.MediaLine.{MediaLine}
use Rattle.str0m_sdp.specs.declared.session.Sdp.{Sdp}
use Rattle.str0m_signal.specs.session.Locked.{locked_of_kind}
use Rattle.str0m_values.specs.declared.media_kind.MediaKind.TheVariants as kind

-- of a section's type: those of its kind that are locked; none where it carries no media
abbrev pub agreed_answer_of_type : MediaType → List PayloadParams → List PayloadParams
agreed_answer_of_type Audio rows = locked_of_kind kind.Audio rows
agreed_answer_of_type Video rows = locked_of_kind kind.Video rows
agreed_answer_of_type _ rows = []

-- in the section of a description that stands there
abbrev pub agreed_answer_in : Option MediaLine → List PayloadParams → List PayloadParams
agreed_answer_in None rows = []
agreed_answer_in (Some section) rows = agreed_answer_of_type section.typ rows

abbrev pub agreed_answer : Sdp → ℕ → List PayloadParams → List PayloadParams
agreed_answer own at rows = agreed_answer_in (slice_get own.media_lines at) rows
