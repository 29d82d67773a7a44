-- A writable session with rows in the place of a section: its text has a reading with nothing left, and that section is read as the
-- frame with the lines of the rows.
use Rattle.str0m_signal.proofs.Common.{◌≡◌, ◌≢◌, ◌<◌, ◌^◌, inl, inr, ℕ, zero, suc, true, List, [], ◌∷◌, ◌++◌, Some, refl, arith}
use Rattle.str0m_signal.proofs.Common.{AllByRecursion, flat_map, slice_get, types, FormatParam, PayloadParams, session_attribute_text}
use Rattle.str0m_signal.proofs.Common.{Consistent, is_media, row_attrs, is_of_type, sdp_text, MediaLine, Sdp, reads, slice_set, not, filter}
use Rattle.str0m_signal.proofs.Common.{codes, made}
use Rattle.str0m_signal.proofs.back.ReadBackRowLines.{ReadAs, read_as_joined, rows_read}
use Rattle.str0m_signal.proofs.line.AttributesPrinted.{LinesReadAs, no_end}
use Rattle.str0m_signal.proofs.session.ReaderPrinted.{read_of, reading_printed}
use Rattle.str0m_signal.proofs.session.SectionLines.{AreTypes, head_printed}
use Rattle.str0m_signal.proofs.session.Sections.{SectionReadAs, AreSectionsRead}
use Rattle.str0m_signal.specs.back.ReadBack.{with_rows}
use Rattle.str0m_signal.specs.back.Writable as writable
use Rattle.str0m_signal.specs.back.Writable.{Writable, writable_frame_of}
use Rattle.str0m_signal.specs.form.SessionAttribute.{IsSessionLine}
use Rattle.str0m_signal.specs.session.Reader.{Reading}

-- ---- what is read, without what goes with it

read_back_plainly : {X : Type 0} (text : X → List ℕ) (F : List ℕ → X → Type 0) (GoesWith : X → X → Type 0) (xs reads : List X)
    → writable.AreReadAs text F GoesWith xs reads → LinesReadAs text F xs reads
read_back_plainly text F GoesWith [] reads h = h
read_back_plainly text F GoesWith (x ∷ xs) reads (inl nothing) = inl (nothing.0, read_back_plainly text F GoesWith xs reads nothing.1)
read_back_plainly text F GoesWith (x ∷ xs) reads (inr (read, more, e, line, goes, later)) = grind
    (arith, read_back_plainly text F GoesWith xs more later)

section_read_as : (m read : MediaLine) → writable.IsMediaReadAs m read → SectionReadAs m read
section_read_as m read h = grind (arith, read_back_plainly)

-- ---- all sections, and another in the place of one

-- the section is read as a consistent one
abbrev IsReadConsistent : MediaLine → Type 0
IsReadConsistent m = (read : MediaLine) × writable.IsMediaReadAs m read × Consistent read

sections_all_read : (ms : List MediaLine) → ((j : ℕ) (m : MediaLine) → slice_get ms j ≡ Some m → IsReadConsistent m)
    → (sections : List MediaLine) × AreSectionsRead ms sections
sections_all_read [] each = ([], tt)
sections_all_read (m ∷ ms) each =
    let one = each zero m refl in
    let more = sections_all_read ms (λ j n e. each (suc j) n e) in
    (one.0 ∷ more.0, (section_read_as m one.0 one.1, one.2, more.1))

-- the sections as they are read, where the i-th is another
record PlacedSections (ms : List MediaLine) (i : ℕ) (x read : MediaLine) : Type 0 where
  sections : List MediaLine
  are : AreSectionsRead (slice_set ms i x) sections
  at : slice_get sections i ≡ Some read

placed_read : (ms : List MediaLine) (i : ℕ) (section x read : MediaLine) → slice_get ms i ≡ Some section → SectionReadAs x read
    → Consistent read
    → ((j : ℕ) (m : MediaLine) → slice_get ms j ≡ Some m → j ≢ i → IsReadConsistent m) → PlacedSections ms i x read
placed_read [] i section x read e h consistent others = absurd cc
placed_read (m ∷ ms) zero section x read e h consistent others =
    let more = sections_all_read ms (λ j n f. others (suc j) n f (λ same. absurd (omega (arith, same)))) in
    record { sections = read ∷ more.0; are = (h, consistent, more.1); at = refl }
placed_read (m ∷ ms) (suc i) section x read e h consistent others =
    let one = others zero m refl (λ same. absurd (omega (arith, same))) in
    let more = placed_read ms i section x read e h consistent (λ j n f other. others (suc j) n f (λ same. other (omega (arith, same)))) in
    record { sections = one.0 ∷ more.sections; are = (section_read_as m one.0 one.1, one.2, more.are); at = more.at }

-- ---- rows in the place of a section

-- the section of rows, as it is read: the frame's attributes as read, and the lines of the rows as read
abbrev pub section_read : MediaLine → MediaLine → List PayloadParams → (PayloadParams → List (List FormatParam)) → MediaLine
section_read section frame theirs values = record section {
  pts = types theirs;
  attrs = frame.attrs ++ flat_map (λ row. reads row (values row)) theirs;
}

-- the text has a reading with nothing left, with that section in the place of the other
pub record ReadWithRows (sdp : Sdp) (i : ℕ) (frame own : MediaLine) (theirs : List PayloadParams) : Type 0 where
  pub read : Sdp
  pub whole : Reading (sdp_text (with_rows sdp i frame theirs)) (read, [])
  pub at : slice_get read.media_lines i ≡ Some own

pub with_rows_read : (sdp : Sdp) (i : ℕ) (w : Writable sdp i) (row : PayloadParams) (rows : List PayloadParams)
    (values : PayloadParams → List (List FormatParam))
    → sdp.session.id < 2 ^ 64 → is_media w.section.typ ≡ true → AreTypes (types (row ∷ rows))
    → AllByRecursion (λ r. ReadAs (row_attrs r) (reads r (values r))) (row ∷ rows)
    → Consistent (section_read w.section w.own.0 (row ∷ rows) values)
    → ReadWithRows sdp i w.section (section_read w.section w.own.0 (row ∷ rows) values) (row ∷ rows)
with_rows_read sdp i w row rows values small media fits each consistent =
    let theirs = row ∷ rows in
    let m = made w.section theirs in
    let own = section_read w.section w.own.0 theirs values in
    let frame = section_read_as (writable_frame_of w.section) w.own.0 w.own.1 in
    let is : SectionReadAs m own = record {
      same = refl;
      head = head_printed m media row.pt _ refl fits;
      bandwidth = frame.bandwidth;
      attributes =
          read_as_joined (filter (λ attr. not (is_of_type attr)) w.section.attrs) (flat_map row_attrs theirs) w.own.0.attrs
          (flat_map (λ r. reads r (values r)) theirs)
          frame.attributes (rows_read theirs values each);
    } in
    let sections = placed_read sdp.media_lines i w.section m own w.at is consistent w.others in
    record {
      read = read_of sdp w.session.0 sections.sections;
      whole =
          reading_printed (codes "2") (with_rows sdp i w.section theirs) w.session.0 sections.sections (no_end (codes "2") refl refl) small
          w.bandwidth
          (read_back_plainly session_attribute_text IsSessionLine writable.SessionGoesWith sdp.session.attrs w.session.0 w.session.1)
          sections.are;
      at = sections.at;
    }
