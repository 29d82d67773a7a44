use Rattle.str0m_signal.proofs.back.ReadBackRows.{reads_back, back_in_readings}
use Rattle.str0m_signal.proofs.session.negotiation.negotiate_text.Goals as goal

pub returns-clause-plain : goal.returns-clause-plain
returns-clause-plain c = c.negotiate.ensures.plain (rw c.as_slice.ensures c.in_ok-sdp.ensures.bounded)

pub returns-clause-printable : goal.returns-clause-printable
returns-clause-printable c = c.negotiate.ensures.printable (rw c.as_slice.ensures c.in_ok-sdp.ensures.bounded)

pub returns-clause-read_back : goal.returns-clause-read_back
returns-clause-read_back c = λ may sdp i writable.
    reads_back sdp i writable _ (c.negotiate.ensures.printable (rw c.as_slice.ensures c.in_ok-sdp.ensures.bounded) may)

pub returns-in_err-negotiate-clause-read_back : goal.returns-in_err-negotiate-clause-read_back
returns-in_err-negotiate-clause-read_back c = λ may sdp i writable.
    reads_back sdp i writable _ (c.negotiate.ensures.printable (rw c.as_slice.ensures c.in_ok-sdp.ensures.bounded) may)

pub returns-in_err-sdp-clause-read_back : goal.returns-in_err-sdp-clause-read_back
returns-in_err-sdp-clause-read_back c = λ may sdp i writable. reads_back sdp i writable _ may

pub returns-clause-back_in_readings : goal.returns-clause-back_in_readings
returns-clause-back_in_readings c = λ may.
    back_in_readings _ (c.negotiate.ensures.printable (rw c.as_slice.ensures c.in_ok-sdp.ensures.bounded) may)

pub returns-in_err-negotiate-clause-back_in_readings : goal.returns-in_err-negotiate-clause-back_in_readings
returns-in_err-negotiate-clause-back_in_readings c = λ may.
    back_in_readings _ (c.negotiate.ensures.printable (rw c.as_slice.ensures c.in_ok-sdp.ensures.bounded) may)

pub returns-in_err-sdp-clause-back_in_readings : goal.returns-in_err-sdp-clause-back_in_readings
returns-in_err-sdp-clause-back_in_readings c = λ may. back_in_readings _ may
