-- Reading of a section's first lines as functions.
use Rattle.std.specs.Borrow.{Bor}
use Rattle.std.specs.Prelude.{ℕ, List, [], Option, Some, None, codes, if◌then◌else◌, is_some, bytes_eq}
use Rattle.str0m_sdp.specs.declared.attribute.media_type.MediaType.TheVariants.{Audio, Video, Application, Unknown}
use Rattle.str0m_sdp.specs.declared.attribute.proto.Proto.TheVariants.{Srtp, Sctp}
use Rattle.str0m_sdp.specs.declared.label.TheConstants.{AUDIO, VIDEO, APPLICATION, SRTP, SCTP, OLD_SCTP}
use Rattle.str0m_signal.specs.Prelude.{Bandwidth, MediaLine, MediaType, Proto, cut, is_rest, num, strip, when, ◌<|>◌, ◌>>=◌}
use Rattle.str0m_signal.specs.form.FormReading.{parted_read}
use Rattle.str0m_signal.specs.line.Lines.{OneLine, StopsLines}
use Rattle.str0m_signal.specs.line.LinesReading.{lines_of}
use Rattle.str0m_signal.specs.session.Section.{Head, IsHead, IsSection}

abbrev pub field_read : List ℕ → List ℕ → Option (List ℕ)
field_read letter content = do
  text ← strip letter content
  when (is_rest text) text

abbrev pub bandwidth_read : List ℕ → Option Bandwidth
bandwidth_read content = do
  body ← strip (codes "b=") content
  fields ← cut 58 body
  typ ← when (is_rest fields.0) fields.0
  val ← when (is_rest fields.1) fields.1
  Some (record { typ = typ; val = val })

abbrev pub unknown_read : List ℕ → Option MediaType
unknown_read text =
    if is_some (strip AUDIO.now text) then None
    else if is_some (strip VIDEO.now text) then None
    else if is_some (strip APPLICATION.now text) then None
    else when (is_rest text) (Unknown text)

abbrev pub media_kind_read : List ℕ → Option MediaType
media_kind_read text =
    when (bytes_eq text AUDIO.now) Audio
    <|> when (bytes_eq text VIDEO.now) Video
    <|> when (bytes_eq text APPLICATION.now) Application
    <|> unknown_read text

abbrev pub proto_read : List ℕ → Option Proto
proto_read text =
    when (bytes_eq text SRTP.now) Srtp
    <|> when (bytes_eq text OLD_SCTP.now) Sctp
    <|> when (bytes_eq text SCTP.now) Sctp

-- numbers parted by spaces
abbrev pub numbers_read : List ℕ → Option (List ℕ)
numbers_read = parted_read 32 (num 255)

abbrev pub no_types_read : List ℕ → Option (List ℕ)
no_types_read text = if is_some (strip (codes " ") text) then None else Some []

abbrev pub types_read : List ℕ → Option (List ℕ)
types_read text = numbers_read text <|> no_types_read text

abbrev pub head_read : List ℕ → Option Head
head_read content = do
  body ← strip (codes "m=") content
  kind ← cut 32 body
  port ← cut 32 kind.1
  protocol ← cut 32 port.1
  typ ← media_kind_read kind.0
  number ← when (is_rest port.0) port.0
  proto ← proto_read protocol.0
  pts ← types_read protocol.1
  Some (record { typ = typ; disabled = bytes_eq number (codes "0"); proto = proto; pts = pts })

-- the section that stands next, or that no m-line does
abbrev pub NextSection : List ℕ → Option (MediaLine × Bor (List ℕ)) → Type 0
NextSection text None = StopsLines (OneLine IsHead) (lines_of text)
NextSection text (Some x) = IsSection (lines_of text) x.0 (lines_of x.1.now)
