-- A description all of whose lines are read as what they say is read back whole.
use Rattle.exchange.proofs.Common.{◌≡◌, ◌≤◌, ◌<◌, ◌^◌, ◌++◌, ◌∷◌, ℕ, Bool, List, [], Option, None, Some, All, All-head, All-tail}
use Rattle.exchange.proofs.Common.{All-weaker, AllZip, IfSome, refl, subst, arith, inl, inr, Alike, Consistent, FirstLine, All-more, Err}
use Rattle.exchange.proofs.Common.{IfOk, IsTrue, Ok, Result, get_or, take, take_all, ◌+◌, MediaAttribute, MediaLine, length, Sdp}
use Rattle.exchange.proofs.Common.{SessionAttribute, versioned_text}
use Rattle.exchange.proofs.state.ReadBackConsistent.{read_back_consistent}
use Rattle.exchange.specs.state.LineByLine.{IsHeadTold, IsFrameTold, IsLineReadAlike, IsReadByLines, IsSectionReadByLines}
use Rattle.exchange.specs.state.LineByLine.{IsSessionLineRead}
use Rattle.exchange.specs.state.ReadBack.{IsReadBack, IsSectionReadAs}
use Rattle.std.proofs.lemmas.List.Elements.{recursion_from_All}
use Rattle.str0m_sdp.specs.attribute.Attribute.{media_attribute_text, session_attribute_text}
use Rattle.str0m_sdp.specs.form.Printed.{printed_line_end}
use Rattle.str0m_signal.proofs.{AreSectionsRead, IsPlainHead, LinesReadAs, SectionReadAs, line_whole_read, plain_head_line}
use Rattle.str0m_signal.proofs.{versioned_reading_printed}
use Rattle.str0m_signal.specs.back.Writable.{IsReadBackLine}
use Rattle.str0m_signal.specs.form.MediaAttribute.{IsMediaLine}
use Rattle.str0m_signal.specs.form.SessionAttribute.{IsSessionLine}

-- ---- what the text of an attribute is read as

pub line_text_alike : (attr : MediaAttribute) (text front : List ℕ) (read : MediaAttribute) (rest : List ℕ)
    → text ≡ media_attribute_text attr
    → text ≡ front ++ printed_line_end → FirstLine IsMediaLine text (read, rest) → (rest ≡ []) × Alike attr read → IsLineReadAlike attr
line_text_alike attr text front read rest printed ends first (none, alike) =
    let whole = subst (λ (left : List ℕ). FirstLine IsMediaLine text (read, left)) none first in (
      read,
      subst (λ (t : List ℕ). IsReadBackLine IsMediaLine t read) printed (line_whole_read IsMediaLine text front read ends whole),
      alike,
    )

pub line_session_text_read : (attr : SessionAttribute) (text front : List ℕ) (read : SessionAttribute) (rest : List ℕ)
    → text ≡ session_attribute_text attr → text ≡ front ++ printed_line_end → FirstLine IsSessionLine text (read, rest)
    → (rest ≡ []) × (read ≡ attr) → IsSessionLineRead attr
line_session_text_read attr text front read rest printed ends first (none, same) =
    let whole = subst (λ (left : List ℕ). FirstLine IsSessionLine text (read, left)) none first in
    subst (λ (t : List ℕ). IsReadBackLine IsSessionLine t attr) printed
    (subst (IsReadBackLine IsSessionLine text) same (line_whole_read IsSessionLine text front read ends whole))

-- ---- what is told of each

pub line_all_more : {X : Type 0} (P : X → Type 0) (xs : List X) (i : ℕ) (x : X) → i < length xs → x ≡ get_or xs i x → P x
    → All P (take i xs) → All P (take (i + 1) xs)
line_all_more {X} P xs i x lt at is before = All-more P xs i x lt before (subst P at is)

pub line_all_seen : {X : Type 0} (P : X → Type 0) (xs : List X) (i : ℕ) → length xs ≤ i → All P (take i xs) → All P xs
line_all_seen {X} P xs i past all = subst (All P) (take_all i xs past) all

pub line_section_told : {E : Type 0} (r : Result Bool E) (m : MediaLine) (attrs : List MediaAttribute) → attrs ≡ m.attrs → IsFrameTold m
    → IfOk r (λ answer. IsTrue answer → All IsLineReadAlike attrs) → IfOk r (λ answer. IsTrue answer → IsSectionReadByLines m)
line_section_told {E} (Err e) m attrs are frame lines = tt
line_section_told {E} (Ok answer) m attrs are frame lines = λ yes. (frame, subst (All IsLineReadAlike) are (lines yes))

pub line_whole_told : {E : Type 0} (r : Result Bool E) (sdp : Sdp) (attrs : List SessionAttribute) (ms : List MediaLine)
    → attrs ≡ sdp.session.attrs → ms ≡ sdp.media_lines → sdp.session.bw ≡ None → All IsSessionLineRead attrs
    → IfOk r (λ answer. IsTrue answer → All IsSectionReadByLines ms) → IfOk r (λ answer. IsTrue answer → IsReadByLines sdp)
line_whole_told {E} (Err e) sdp attrs ms are sections_are bandwidth lines sections = tt
line_whole_told {E} (Ok answer) sdp attrs ms are sections_are bandwidth lines sections = λ yes. record {
  bandwidth = bandwidth;
  lines = subst (All IsSessionLineRead) are lines;
  sections = subst (All IsSectionReadByLines) sections_are (sections yes);
}

-- ---- a section

-- its attributes as they are read, one by one
record LinesAlike (attrs : List MediaAttribute) : Type 0 where
  reads : List MediaAttribute
  are : LinesReadAs media_attribute_text IsMediaLine attrs reads
  alike : AllZip Alike attrs reads

lines_alike : (attrs : List MediaAttribute) → All IsLineReadAlike attrs → LinesAlike attrs
lines_alike [] all = record { reads = []; are = refl; alike = tt }
lines_alike (x ∷ xs) all =
    let one = All-head IsLineReadAlike x xs all in
    let more = lines_alike xs (All-tail IsLineReadAlike x xs all) in
    record {
      reads = one.0 ∷ more.reads;
      are = inr (one.0, more.reads, refl, one.1, more.are);
      alike = (one.2, more.alike);
    }

line_head_plain : (m : MediaLine) → IsHeadTold m → IsPlainHead m
line_head_plain m (inl (media, types)) = inl (
  media,
  types.0,
  recursion_from_All (λ n. n ≤ 255) m.pts (All-weaker (λ n. n ≤ 127) (λ n. n ≤ 255) (λ n h. omega (arith, h)) m.pts types.1),
)
line_head_plain m (inr channel) = inr channel

-- where nothing is, anything holds of it
line_none_holds : {A : Type 0} (P : A → Type 0) (o : Option A) → o ≡ None → IfSome o P
line_none_holds P None e = tt
line_none_holds P (Some x) e = absurd cc

-- a section as it is read
record SectionAlike (m : MediaLine) : Type 0 where
  read : MediaLine
  is : SectionReadAs m read
  consistent : Consistent read
  alike : IsSectionReadAs m read

section_alike : (m : MediaLine) → IsSectionReadByLines m → SectionAlike m
section_alike m h =
    let lines = lines_alike m.attrs h.1 in
    record {
      read = record m { attrs = lines.reads };
      is = record {
        same = refl;
        head = plain_head_line m (line_head_plain m h.0.head);
        bandwidth = line_none_holds _ m.bw h.0.bandwidth;
        attributes = lines.are;
      };
      consistent = read_back_consistent m lines.reads lines.alike h.0.consistent;
      alike = record {
        head = record { typ = refl; disabled = refl; proto = refl; types = refl };
        bandwidth = refl;
        attributes = lines.alike;
      };
    }

-- ---- a description

record SectionsAlike (ms : List MediaLine) : Type 0 where
  reads : List MediaLine
  are : AreSectionsRead ms reads
  alike : AllZip IsSectionReadAs ms reads

sections_alike : (ms : List MediaLine) → All IsSectionReadByLines ms → SectionsAlike ms
sections_alike [] all = record { reads = []; are = tt; alike = tt }
sections_alike (m ∷ ms) all =
    let one = section_alike m (All-head IsSectionReadByLines m ms all) in
    let more = sections_alike ms (All-tail IsSectionReadByLines m ms all) in
    record {
      reads = one.read ∷ more.reads;
      are = (one.is, one.consistent, more.are);
      alike = (one.alike, more.alike);
    }

session_lines_read : (attrs : List SessionAttribute) → All IsSessionLineRead attrs
    → LinesReadAs session_attribute_text IsSessionLine attrs attrs
session_lines_read [] all = refl
session_lines_read (x ∷ xs) all =
    inr (x, xs, refl, All-head IsSessionLineRead x xs all, session_lines_read xs (All-tail IsSessionLineRead x xs all))

-- printed with any version, it is read back
pub line_by_line_back : (version : ℕ) (sdp : Sdp) → version < 2 ^ 64 → sdp.session.id < 2 ^ 64 → IsReadByLines sdp
    → IsReadBack sdp (versioned_text version sdp)
line_by_line_back version sdp number small h =
    let sections = sections_alike sdp.media_lines h.sections in (
      record { session = sdp.session; media_lines = sections.reads },
      versioned_reading_printed version sdp sdp.session.attrs sections.reads number small
          (line_none_holds _ sdp.session.bw h.bandwidth) (session_lines_read sdp.session.attrs h.lines) sections.are,
      record { session = refl; sections = sections.alike },
    )
