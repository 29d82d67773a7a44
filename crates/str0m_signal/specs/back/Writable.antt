-- Sessions whose printed text is read line by line as what they hold, up to one section's rows.
use Rattle.std.specs.Prelude.{◌≡◌, ◌≢◌, ◌≤◌, ◌⊎◌, ℕ, Bool, not, List, [], ◌∷◌, ◌++◌, Option, Some, None, IfSome, All, count_by, true, false, filter, slice_get}
use Rattle.str0m_sdp.specs.declared.attribute.MediaAttribute.TheVariants as media
use Rattle.str0m_sdp.specs.declared.attribute.SessionAttribute.TheVariants as session
use Rattle.str0m_sdp.specs.section.Alike.{Alike}
use Rattle.str0m_sdp.specs.section.MediaLine.{m_line}
use Rattle.str0m_signal.specs.Prelude.{Consistent, IsTheOnly, Lacks, MediaAttribute, MediaLine, Sdp, SessionAttribute, bandwidth_text, is_direction, is_mid, is_of_type, is_setup, printed_line_end, media_attribute_text, session_attribute_text}
use Rattle.str0m_signal.specs.form.MediaAttribute.{IsMediaLine}
use Rattle.str0m_signal.specs.form.SessionAttribute.{IsSessionLine}
use Rattle.str0m_signal.specs.line.LinesReading.{read_attribute}
use Rattle.str0m_signal.specs.session.Section.{IsBandwidth, IsHead}

-- the text is one printed line, which has the form F of the value
abbrev pub IsReadBackLine : {A : Type 0} → (List ℕ → A → Type 0) → List ℕ → A → Type 0
IsReadBackLine F text value = (content : List ℕ) × (text ≡ content ++ printed_line_end) × Lacks 10 content × Lacks 13 content × F content value

-- each item prints nothing, or one line that is read as the value in its place, which goes with the item
abbrev pub AreReadAs : {X : Type 0} → (X → List ℕ) → (List ℕ → X → Type 0) → (X → X → Type 0) → List X → List X → Type 0
AreReadAs text F GoesWith [] reads = reads ≡ []
AreReadAs {X} text F GoesWith (x ∷ xs) reads =
    ((text x ≡ []) × AreReadAs text F GoesWith xs reads)
    ⊎ ((read : X) × (more : List X) × (reads ≡ read ∷ more) × IsReadBackLine F (text x) read × GoesWith x read
    × AreReadAs text F GoesWith xs more)

-- an attribute is read as one alike, or is kept unread
abbrev pub MediaGoesWith : MediaAttribute → MediaAttribute → Type 0
MediaGoesWith x read = Alike x read ⊎ ((text : List ℕ) × (read ≡ media.Unused text))

abbrev pub SessionGoesWith : SessionAttribute → SessionAttribute → Type 0
SessionGoesWith x read = (x ≡ read) ⊎ ((text : List ℕ) × (read ≡ session.Unused text))

abbrev pub MediaAreReadAs : List MediaAttribute → List MediaAttribute → Type 0
MediaAreReadAs = AreReadAs media_attribute_text IsMediaLine MediaGoesWith

-- the section's m-line is read as what it is, with these types
abbrev pub HasTypes : MediaLine → List ℕ → Type 0
HasTypes m pts = IsReadBackLine IsHead (m_line m) (record { typ = m.typ; disabled = m.disabled; proto = m.proto; pts = pts })

-- a section as its lines are read: its types and attributes may be others
pub record IsMediaReadAs (m read : MediaLine) : Type 0 where
  pub same : read ≡ record m { pts = read.pts; attrs = read.attrs }
  pub head : HasTypes m read.pts
  pub bandwidth : IfSome m.bw (λ bw. IsReadBackLine IsBandwidth (bandwidth_text bw) bw)
  pub attributes : MediaAreReadAs m.attrs read.attrs

-- the section without the lines of payload types
abbrev pub writable_frame_of : MediaLine → MediaLine
writable_frame_of m = record m { attrs = filter (λ attr. not (is_of_type attr)) m.attrs }

-- a frame as its lines are read: one mid, at most one setup, one direction, and no lines of payload types
pub record IsWritableFrame (m : MediaLine) : Type 0 where
  pub mid : count_by is_mid m.attrs ≡ 1
  pub setup : count_by is_setup m.attrs ≤ 1
  pub direction : count_by is_direction m.attrs ≡ 1
  pub none_of_type : All (λ attr. is_of_type attr ≡ false) m.attrs

-- the only list with P stands after the others; or no list has P
abbrev pub PutsBack : {X : Type 0} → (List X → Type 0) → List X → List X → Bool → Type 0
PutsBack {X} P old new true = (reads : List X) × IsTheOnly P (Some reads) × (new ≡ old ++ reads)
PutsBack P old new false = IsTheOnly P None

-- rows may be printed in the section there, and are read again
pub record Writable (sdp : Sdp) (i : ℕ) : Type 0 where
  pub section : MediaLine
  pub at : slice_get sdp.media_lines i ≡ Some section
  pub session : (reads : List SessionAttribute) × AreReadAs session_attribute_text IsSessionLine SessionGoesWith sdp.session.attrs reads
  pub bandwidth : IfSome sdp.session.bw (λ bw. IsReadBackLine IsBandwidth (bandwidth_text bw) bw)
  pub others : (j : ℕ) (m : MediaLine) → slice_get sdp.media_lines j ≡ Some m → j ≢ i
      → (read : MediaLine) × IsMediaReadAs m read × Consistent read
  pub own : (read : MediaLine) × IsMediaReadAs (writable_frame_of section) read × IsWritableFrame read

-- the line is read so by a function
abbrev pub IsReadBy : {A : Type 0} → (List ℕ → Option A) → List ℕ → A → Type 0
IsReadBy f content value = read_attribute f content ≡ Some value
