-- A session that was read is writable where it may be printed again.
use Rattle.str0m_signal.proofs.Common.{rules, arith, ◌≡◌, ℕ, zero, suc, not, List, [], ◌∷◌, filter, Some, IfSome, refl, subst, inl, inr}
use Rattle.str0m_signal.proofs.Common.{codes, AllByRecursion, slice_get, cases_Bool, cuts_some_is, session_attribute_text, Consistent}
use Rattle.str0m_signal.proofs.Common.{is_of_type, MediaAttribute, SessionAttribute, MediaLine, Srtp, Sdp}
use Rattle.str0m_signal.proofs.form.MediaAttributeAgain.{ComesBack, media_again}
use Rattle.str0m_signal.proofs.form.SessionAttributeAgain.{session_again}
use Rattle.str0m_signal.proofs.line.LinesAgain.{AreFineLines, IsOnLine, one_line, chain_lines, taken_line, line_behind_is, bandwidth_again}
use Rattle.str0m_signal.proofs.line.LinesAgain.{head_of}
use Rattle.str0m_signal.proofs.line.LinesAgain.{head_again}
use Rattle.str0m_signal.proofs.line.WordsCharacterStarts.{StartsWithin, of_utf8}
use Rattle.str0m_signal.proofs.session.SectionAgain.{section_lines_again, consistent_again, frame_again}
use Rattle.str0m_signal.specs.back.Writable.{AreReadAs, SessionGoesWith, IsMediaReadAs, IsWritableFrame, Writable, writable_frame_of}
use Rattle.str0m_signal.specs.back.WritableAgain.{FitsKind, FitsAgain, SectionFitsAgain, MayBeWrittenAgain, IsWritableOverSrtp, IsRead}
use Rattle.str0m_signal.specs.form.MediaAttribute.{IsMediaLine}
use Rattle.str0m_signal.specs.form.SessionAttribute.{IsSessionLine}
use Rattle.str0m_signal.specs.line.Lines.{Chain, Line}
use Rattle.str0m_signal.specs.session.Header.{IsExactHeaderLine, IsOrigin, IsHeaderInfo}
use Rattle.str0m_signal.specs.session.Reader.{IsReading, ConsistentSection}
use Rattle.str0m_signal.specs.session.Section.{IsSessionField, IsHead, IsBandwidth}

-- ---- sections

-- what the lines of a section were
record WasRead (m : MediaLine) : Type 0 where
  head : IsOnLine IsHead (head_of m)
  bandwidth : IfSome m.bw (IsOnLine IsBandwidth)
  attributes : AllByRecursion (IsOnLine IsMediaLine) m.attrs
  consistent : Consistent m

was_read : (lines : List Line) (m : MediaLine) (rest : List Line) → AreFineLines lines → ConsistentSection lines m rest
    → WasRead m × AreFineLines rest
was_read lines m rest are h =
    let section = h.0 in
    let head = one_line IsHead lines (head_of m) section.after_head are section.head_is in
    let connection = taken_line (IsSessionField (codes "c=")) section.after_head section.connection section.after_connection head.1
    section.connection_is in
    let bandwidth = taken_line IsBandwidth section.after_connection m.bw section.after_bandwidth connection.1 section.bandwidth_is in
    let attributes = chain_lines IsMediaLine section.after_bandwidth m.attrs rest bandwidth.1 section.attributes_are.0 in
    (record { head = head.0; bandwidth = bandwidth.0; attributes = attributes.0; consistent = h.1 }, attributes.1)

were_read : (lines : List Line) (ms : List MediaLine) (rest : List Line) → AreFineLines lines → Chain ConsistentSection lines ms rest
    → AllByRecursion WasRead ms
were_read lines [] rest are h = tt
were_read lines (m ∷ ms) rest are h = grind (arith, was_read lines m h.0 are h.1, were_read h.0 ms rest)

come_back : (attrs : List MediaAttribute) → AllByRecursion (IsOnLine IsMediaLine) attrs → AllByRecursion FitsAgain attrs
    → AllByRecursion ComesBack attrs
come_back [] lines may = tt
come_back (x ∷ xs) ((content, quiet, starts, (text, e, form)), lines) may =
    search (rules, line_behind_is content text e quiet starts, media_again text x, come_back xs lines may.1)

-- the section's lines are read as a consistent one
section_again : (m : MediaLine) → WasRead m → FitsKind m.typ m.proto m.pts → AllByRecursion FitsAgain m.attrs
    → (read : MediaLine) × IsMediaReadAs m read × Consistent read
section_again m was fits may =
    let head = head_again m fits was.head in
    let attrs = section_lines_again m.attrs (come_back m.attrs was.attributes may) in (
      record m { pts = head.0; attrs = attrs.0 },
      record { same = refl; head = head.1; bandwidth = bandwidth_again m.bw was.bandwidth; attributes = attrs.2 },
      consistent_again m head.0 attrs.0 attrs.1 head.2 was.consistent,
    )

frame_comes_back : (attrs : List MediaAttribute) → AllByRecursion ComesBack attrs
    → AllByRecursion ComesBack (filter (λ attr. not (is_of_type attr)) attrs)
frame_comes_back [] all = tt
frame_comes_back (x ∷ xs) all = grind (arith, cases_Bool, frame_comes_back xs all.1)

-- so is its frame, over Srtp
own_again : (m : MediaLine) → WasRead m → FitsKind m.typ m.proto m.pts → AllByRecursion FitsAgain m.attrs → m.proto ≡ Srtp
    → (read : MediaLine) × IsMediaReadAs (writable_frame_of m) read × IsWritableFrame read
own_again m was fits may over =
    let head = head_again m fits was.head in
    let attrs = section_lines_again (writable_frame_of m).attrs (frame_comes_back m.attrs (come_back m.attrs was.attributes may)) in (
      record (writable_frame_of m) { pts = head.0; attrs = attrs.0 },
      record { same = refl; head = head.1; bandwidth = bandwidth_again m.bw was.bandwidth; attributes = attrs.2 },
      frame_again m head.0 attrs.0 attrs.1 over was.consistent,
    )

-- ---- the session

-- what the lines of a session were
record SessionWasRead (sdp : Sdp) : Type 0 where
  bandwidth : IfSome sdp.session.bw (IsOnLine IsBandwidth)
  attributes : AllByRecursion (IsOnLine IsSessionLine) sdp.session.attrs
  sections : AllByRecursion WasRead sdp.media_lines

session_was_read : (lines : List Line) (sdp : Sdp) (rest : List Line) → AreFineLines lines → IsReading lines sdp rest → SessionWasRead sdp
session_was_read lines sdp rest are reading =
    let session = reading.session_is in
    let header = session.header_is in
    let opening = header.opening_is in
    let version = one_line (IsExactHeaderLine (codes "v=0")) lines (codes "v=0") opening.after_version are opening.version_is in
    let origin = one_line IsOrigin opening.after_version sdp.session.id opening.after_origin version.1 opening.origin_is in
    let name = one_line (IsSessionField (codes "s=")) opening.after_origin opening.name header.after_opening origin.1 opening.name_is in
    let infos = chain_lines IsHeaderInfo header.after_opening header.infos header.after_infos name.1 header.infos_are.0 in
    let bandwidth = taken_line IsBandwidth header.after_infos sdp.session.bw header.after_bandwidth infos.1 header.bandwidth_is in
    let timing = one_line (IsExactHeaderLine (codes "t=0 0")) header.after_bandwidth (codes "t=0 0") header.after_timing bandwidth.1
    header.timing_is in
    let repeats = chain_lines (IsSessionField (codes "r=")) header.after_timing header.repeats session.after_header timing.1
    header.repeats_are.0 in
    let attributes = chain_lines IsSessionLine session.after_header sdp.session.attrs reading.after_session repeats.1
    session.attributes_are.0 in
    record {
      bandwidth = bandwidth.0;
      attributes = attributes.0;
      sections = were_read reading.after_session sdp.media_lines rest attributes.1 reading.sections_are.0;
    }

session_attributes : (attrs : List SessionAttribute) → AllByRecursion (IsOnLine IsSessionLine) attrs
    → AreReadAs session_attribute_text IsSessionLine SessionGoesWith attrs attrs
session_attributes [] lines = refl
session_attributes (x ∷ xs) ((content, quiet, starts, (text, e, form)), lines) =
    let own = line_behind_is content text e quiet starts in
    inr (x, xs, refl, session_again text x own.quiet own.starts form, inl refl, session_attributes xs lines)

writable_all_at : {A : Type 0} (P : A → Type 0) (xs : List A) → AllByRecursion P xs → (j : ℕ) (x : A) → slice_get xs j ≡ Some x → P x
writable_all_at P [] all j x e = absurd cc
writable_all_at P (y ∷ ys) all zero x e = subst P (cuts_some_is y x e) all.0
writable_all_at P (y ∷ ys) all (suc j) x e = writable_all_at P ys all.1 j x e

-- a session that was read is writable at each section over Srtp
pub read_is_writable : (sdp : Sdp) (i : ℕ) → IsRead sdp → MayBeWrittenAgain sdp → IsWritableOverSrtp sdp i → Writable sdp i
read_is_writable sdp i (text, rest, utf8, (lines, behind, (whole, are), reading, left)) may (m, at, over) =
    let was = session_was_read lines sdp behind (are, subst (StartsWithin 3) whole (of_utf8 text utf8)) reading in
    let fits : (j : ℕ) (x : MediaLine) → slice_get sdp.media_lines j ≡ Some x → SectionFitsAgain x
    = λ j x e. writable_all_at SectionFitsAgain sdp.media_lines may j x e in
    let read : (j : ℕ) (x : MediaLine) → slice_get sdp.media_lines j ≡ Some x → WasRead x
    = λ j x e. writable_all_at WasRead sdp.media_lines was.sections j x e in
    record {
      section = m;
      at = at;
      session = (sdp.session.attrs, session_attributes sdp.session.attrs was.attributes);
      bandwidth = bandwidth_again sdp.session.bw was.bandwidth;
      others = λ j x e other. section_again x (read j x e) (fits j x e).0 (fits j x e).1;
      own = own_again m (read i m at) (fits i m at).0 (fits i m at).1 over;
    }
