-- The reading of a text.
use Rattle.std.specs.Prelude.{ℕ, List, ◌≡◌, ◌++◌}
use Rattle.str0m_sdp.specs.declared.session.Session.{Session as TheSession}
use Rattle.str0m_signal.specs.Prelude.{Consistent, MediaLine, Sdp}
use Rattle.str0m_signal.specs.form.SessionAttribute.{IsSessionLine}
use Rattle.str0m_signal.specs.line.Lines.{Line, OneLine, OfText, Chain, StopsLines, Run, lines_joined, Lines}
use Rattle.str0m_signal.specs.session.Header.{IsHeader}
use Rattle.str0m_signal.specs.session.Section.{IsHead, IsSection}

-- the lines are a header, the longest run of session attributes, and the rest (RFC 8866, section 5)
pub record IsSession (lines : List Line) (session : TheSession) (rest : List Line) : Type 0 where
  pub after_header : List Line
  pub header_is : IsHeader lines (record { id = session.id; bw = session.bw }) after_header
  pub attributes_are : Run (OneLine IsSessionLine) after_header session.attrs rest

abbrev pub ConsistentSection : List Line → MediaLine → List Line → Type 0
ConsistentSection lines m rest = IsSection lines m rest × Consistent m

-- consistent sections, and then no m-line
abbrev pub Sections : List Line → List MediaLine → List Line → Type 0
Sections lines sections rest = Chain ConsistentSection lines sections rest × StopsLines (OneLine IsHead) rest

-- the lines are a session's, those of consistent sections, and the rest
pub record IsReading (lines : List Line) (sdp : Sdp) (rest : List Line) : Type 0 where
  pub after_session : List Line
  pub session_is : IsSession lines sdp.session after_session
  pub sections_are : Sections after_session sdp.media_lines rest

-- the text is read so, and the rest of it is left
abbrev pub Reading : List ℕ → Sdp × List ℕ → Type 0
Reading = OfText IsReading

abbrev pub SessionReading : List ℕ → TheSession × List ℕ → Type 0
SessionReading = OfText IsSession

-- a text describes the session that is read of it, whatever follows
abbrev pub DescribesSession : List ℕ → Sdp → Type 0
DescribesSession text sdp = (rest : List ℕ) × Reading text (sdp, rest)

-- ---- what is left of a text from one of its lines on

-- the rest is the text from the beginning of a line on, or nothing: these lines stand before it, each with its end, and these in it
pub record IsFromLine (text rest : List ℕ) : Type 0 where
  pub before : List Line
  pub after : List Line
  pub lines_are : Lines text (before ++ after)
  pub rest_is : rest ≡ lines_joined after
