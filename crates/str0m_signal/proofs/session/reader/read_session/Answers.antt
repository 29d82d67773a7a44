use Rattle.str0m_signal.proofs.session.ReaderAnswerLaws.{refused}
use Rattle.str0m_signal.proofs.session.reader.read_session.Goals as goal
use Rattle.str0m_signal.specs.line.LinesReading.{lines_of}
use Rattle.str0m_signal.specs.session.Reader.{IsSession}

pub returns-in_default : goal.returns-in_default
returns-in_default c =
    let none = rw c.in_default.is at c.in_ok-head.ensures in
    refused c.reader_refusal.result (λ v. IsSession (lines_of c.args.text.now) v.0 v.1) c.reader_refusal.ensures
    (λ v is. none _ _ is.header_is)
