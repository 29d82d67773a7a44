use Rattle.str0m_signal.proofs.session.ReaderAnswerLaws.{reader_passed_on, reader_handed_on}
use Rattle.str0m_signal.proofs.session.ReaderLaws.{session_at, sections_at}
use Rattle.str0m_signal.proofs.session.reader.read_sdp.Goals as goal
use Rattle.str0m_signal.specs.line.LinesReading.{lines_of, lines_left}
use Rattle.str0m_signal.specs.session.Reader.{Sections, IsSession, IsReading}

pub returns-in_err-session : goal.returns-in_err-session
returns-in_err-session c =
    reader_handed_on lines_left c.from_residual.result c.in_err-session.field-0.0 (λ v. IsReading (lines_of c.args.text.now) v.0 v.1)
    c.from_residual.ensures.1
    (reader_passed_on c.in_err-session.field-0.0 (λ v. IsSession (lines_of c.args.text.now) v.0 v.1)
    (λ v. IsReading (lines_of c.args.text.now) v.0 v.1) c.in_err-session.ensures (session_at (lines_of c.args.text.now)))

pub returns-in_err-media_lines : goal.returns-in_err-media_lines
returns-in_err-media_lines c =
    reader_handed_on lines_left c.from_residual-in_err-media_lines.result c.in_err-media_lines.field-0.0
    (λ v. IsReading (lines_of c.args.text.now) v.0 v.1) c.from_residual-in_err-media_lines.ensures.1
    (reader_passed_on c.in_err-media_lines.field-0.0 (λ v. Sections (lines_of c.in_ok-session.rest.now) v.0 v.1)
    (λ v. IsReading (lines_of c.args.text.now) v.0 v.1) c.in_err-media_lines.ensures
    (sections_at (lines_of c.args.text.now) (lines_of c.in_ok-session.rest.now) c.in_ok-session.session c.in_ok-session.ensures))
