-- Rows that are printed in a session and read again.
use Rattle.std.specs.List.{AllZip}
use Rattle.std.specs.Prelude.{◌≡◌, ◌≢◌, ℕ, true, List, [], Some, slice_set, All, slice_get}
use Rattle.str0m_formats.specs.row.PlainRowBounds.{HoldsRowNumbers}
use Rattle.str0m_signal.specs.Prelude.{AllTypesDistinct, Consistent, IsPlain, IsSessionNumber, MediaLine, NamesOnePrimaryRow, PayloadParams, SameRow, Sdp, is_media, made, rows, sdp_text, types}
use Rattle.str0m_signal.specs.session.Reader.{Reading}

-- the session with a section made of rows in the place of one
abbrev pub with_rows : Sdp → ℕ → MediaLine → List PayloadParams → Sdp
with_rows sdp i frame theirs = record sdp { media_lines = slice_set sdp.media_lines i (made frame theirs) }

-- the text has a reading with nothing left, whose section there describes the rows, in order
pub record ReadBack (sdp : Sdp) (i : ℕ) (frame : MediaLine) (theirs : List PayloadParams) : Type 0 where
  pub read : Sdp
  pub whole : Reading (sdp_text (with_rows sdp i frame theirs)) (read, [])
  pub section : MediaLine
  pub at : slice_get read.media_lines i ≡ Some section
  pub consistent : Consistent section
  pub names_one : All (NamesOnePrimaryRow section) section.attrs
  pub same : AllZip SameRow (rows section) theirs

-- there is a row, each is plain, and no payload type stands twice
pub record CanRowsBeReadBack (theirs : List PayloadParams) : Type 0 where
  pub some : theirs ≢ []
  pub plain : All IsPlain theirs
  pub distinct : AllTypesDistinct (types theirs)

-- the numbers are those that their types can hold: of each value that a program has, they are
abbrev pub FitTheirTypes : Sdp → List PayloadParams → Type 0
FitTheirTypes sdp theirs = IsSessionNumber sdp.session.id × All HoldsRowNumbers theirs

-- where an audio or video section stands there, the rows printed in its place are read back
abbrev pub ReadsBack : Sdp → ℕ → List PayloadParams → Type 0
ReadsBack sdp i theirs = (frame : MediaLine) → slice_get sdp.media_lines i ≡ Some frame → is_media frame.typ ≡ true
    → FitTheirTypes sdp theirs
    → ReadBack sdp i frame theirs
