-- What the lines of a text say, but for what printing fixes.
use Rattle.lint.specs.Prelude.{Line, Reading, Sdp, cut, lines_of, sdp_text, strip, ◌>>=◌}
use Rattle.lint.specs.declared.told.NextToldLine.{NextToldLine}
use Rattle.lint.specs.declared.told.Told.{Told as Shown}
use Rattle.std.specs.Prelude.{◌≡◌, ℕ, Bool, false, List, [], ◌∷◌, Option, Some, None, codes, is_some, if◌then◌else◌, bytes_eq}

-- of an m-line its type with `m=`, whether its port is 0, and what stands after the port; of another line the whole of it
pub record Told : Type 0 where
  pub kind : List ℕ
  pub stopped : Bool
  pub rest : List ℕ

abbrev pub told_whole : List ℕ → Told
told_whole line = record { kind = []; stopped = false; rest = line }

-- an m-line without a port is told as it stands
abbrev pub media_told : List ℕ → Option Told → Told
media_told line None = told_whole line
media_told line (Some told) = told

abbrev pub told_ported : List ℕ → Option Told
told_ported line = cut 32 line >>= λ kind. cut 32 kind.1 >>= λ port. Some (record { kind = kind.0; stopped = bytes_eq port.0 (codes "0"); rest = port.1 })

-- printing fixes the origin and the name of a session, and each port but 0 (RFC 8866, sections 5.2, 5.3 and 5.14)
abbrev pub line_told : List ℕ → Told
line_told line =
    if is_some (strip (codes "o=") line) then told_whole (codes "o=")
    else if is_some (strip (codes "s=") line) then told_whole (codes "s=")
    else if is_some (strip (codes "m=") line) then media_told line (told_ported line)
    else told_whole line

-- printing fixes `c=` lines, too (RFC 8866, section 5.7): they aren't told
abbrev pub lines_told : List Line → List Told
lines_told [] = []
lines_told (line ∷ lines) =
    if is_some (strip (codes "c=") line.content) then lines_told lines else line_told line.content ∷ lines_told lines

-- what the lines of a text say, in order
abbrev pub told_of : List ℕ → List Told
told_of text = lines_told (lines_of text)

-- nothing is lost of a text: it is read to its end, and its lines say what is printed of it
abbrev pub NothingLost : List ℕ → Type 0
NothingLost text = (sdp : Sdp) × Reading text (sdp, []) × (told_of text ≡ told_of (sdp_text sdp))

-- what the private record of the code says
abbrev pub shown_told : Shown → Told
shown_told line = record { kind = line.kind.now; stopped = line.stopped; rest = line.rest.now }

-- no line of the text is told; or this one is the first, and the text after it is left
abbrev pub NextTold : List ℕ → Option NextToldLine → Type 0
NextTold text None = told_of text ≡ []
NextTold text (Some next) = told_of text ≡ shown_told next.line ∷ told_of next.rest.now
