use Rattle.str0m_signal.proofs.session.ReaderAnswerLaws.{reader_passed_on, one_session_described}
use Rattle.str0m_signal.proofs.session.offer.described_offer.Goals as goal
use Rattle.str0m_signal.specs.session.Reader.{Reading, DescribesSession}

pub returns-in-Ok-clause-one : goal.returns-in-Ok-clause-one
returns-in-Ok-clause-one c = one_session_described (Reading c.args.text.now) c.in-Ok.ensures.one

pub returns-in-Err-clause-one : goal.returns-in-Err-clause-one
returns-in-Err-clause-one c = one_session_described (Reading c.args.text.now) c.in-Err.ensures.one

pub returns-in-Err-clause-read : goal.returns-in-Err-clause-read
returns-in-Err-clause-read c = reader_passed_on c.in-Err.error (Reading c.args.text.now) (DescribesSession c.args.text.now)
    c.in-Err.ensures.read
    (λ w q. ((w, q.0), q.1))
