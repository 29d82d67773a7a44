-- A printed session with its sections has a reading with nothing left.
use Rattle.str0m_signal.proofs.Common.{◌≡◌, ◌≢◌, ◌<◌, ◌^◌, ℕ, List, [], ◌++◌, IfSome, refl, sym, ap, ◌∙◌, arith, flat_map, append-nil}
use Rattle.str0m_signal.proofs.Common.{session_attribute_text, bandwidth_text, media_line_text, decimal, SessionAttribute, MediaLine, Sdp}
use Rattle.str0m_signal.proofs.Common.{session_lines, versioned_origin, versioned_text}
use Rattle.str0m_signal.proofs.line.AttributesPrinted.{LinesReadAs, HoldsNoEnd, decimal_no_end}
use Rattle.str0m_signal.proofs.line.LinesPrinted.{lines_joined-append, printed-append, lines_printed, LinesApart}
use Rattle.str0m_signal.proofs.line.LinesPrinted.{printed_lines_apart-append}
use Rattle.str0m_signal.proofs.session.Sections.{AreSectionsRead, SaidSections, said_sections, sections_are}
use Rattle.str0m_signal.proofs.session.SessionLines.{SaidSession, said_session}
use Rattle.str0m_signal.specs.back.Writable.{IsReadBackLine}
use Rattle.str0m_signal.specs.form.SessionAttribute.{IsSessionLine}
use Rattle.str0m_signal.specs.line.Lines.{lines_joined}
use Rattle.str0m_signal.specs.session.Reader.{Reading}
use Rattle.str0m_signal.specs.session.Section.{IsBandwidth}

-- the description with other attributes of the session and other sections
abbrev pub read_of : Sdp → List SessionAttribute → List MediaLine → Sdp
read_of sdp attrs sections = record { session = record sdp.session { attrs = attrs }; media_lines = sections }

-- with the text of a version in its origin
pub reading_printed : (version : List ℕ) (sdp : Sdp) (attrs : List SessionAttribute) (sections : List MediaLine) → HoldsNoEnd version
    → sdp.session.id < 2 ^ 64
    → IfSome sdp.session.bw (λ bw. IsReadBackLine IsBandwidth (bandwidth_text bw) bw)
    → LinesReadAs session_attribute_text IsSessionLine sdp.session.attrs attrs → AreSectionsRead sdp.media_lines sections
    → Reading (session_lines (versioned_origin version sdp.session.id) sdp.session ++ flat_map media_line_text sdp.media_lines)
    (read_of sdp attrs sections, [])
reading_printed version sdp attrs sections plain small bandwidth own others = (
  first.lines ++ (behind.lines ++ []),
  [],
  lines_printed _ (first.lines ++ (behind.lines ++ [])) whole
      (printed-append first.lines (behind.lines ++ []) first.printed (printed-append behind.lines [] behind.printed tt)),
  record {
    after_session = behind.lines ++ [];
    session_is =
        first.session_is (behind.lines ++ []) (starts 97 (λ e. absurd (omega (arith, e)))) (starts 114 (λ e. absurd (omega (arith, e))));
    sections_are = sections_are sdp.media_lines sections behind;
  },
  refl,
)
  where
    first : SaidSession version sdp.session attrs
    first = said_session version sdp.session attrs plain small bandwidth own

    behind : SaidSections sdp.media_lines sections
    behind = said_sections sdp.media_lines sections others

    starts : (c : ℕ) → c ≢ 109 → LinesApart c (behind.lines ++ [])
    starts c other = printed_lines_apart-append c behind.lines [] (behind.letter c other) tt

    whole : session_lines (versioned_origin version sdp.session.id) sdp.session ++ flat_map media_line_text sdp.media_lines
        ≡ lines_joined (first.lines ++ (behind.lines ++ []))
    whole =
        ap (λ (t : List ℕ). t ++ flat_map media_line_text sdp.media_lines) first.are
        ∙ ap (λ (t : List ℕ). lines_joined first.lines ++ t) (behind.are ∙ ap lines_joined (sym (append-nil behind.lines)))
        ∙ sym (lines_joined-append first.lines (behind.lines ++ []))

-- with a number for its version
pub versioned_reading_printed : (version : ℕ) (sdp : Sdp) (attrs : List SessionAttribute) (sections : List MediaLine) → version < 2 ^ 64
    → sdp.session.id < 2 ^ 64
    → IfSome sdp.session.bw (λ bw. IsReadBackLine IsBandwidth (bandwidth_text bw) bw)
    → LinesReadAs session_attribute_text IsSessionLine sdp.session.attrs attrs → AreSectionsRead sdp.media_lines sections
    → Reading (versioned_text version sdp) (read_of sdp attrs sections, [])
versioned_reading_printed version sdp attrs sections number =
    reading_printed (decimal version) sdp attrs sections (decimal_no_end version number)
