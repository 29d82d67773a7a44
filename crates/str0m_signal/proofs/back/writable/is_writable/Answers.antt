use Rattle.str0m_signal.proofs.Common.{Bool, refl, ◌↔◌, IsTrue, IfOk-weaker}
use Rattle.str0m_signal.proofs.back.ReadBackRows.{reads_back}
use Rattle.str0m_signal.proofs.back.WritableAgainLaws.{read_is_writable}
use Rattle.str0m_signal.proofs.back.writable.is_writable.Goals as goal
use Rattle.str0m_signal.specs.back.Writable.{Writable}
use Rattle.str0m_signal.specs.back.WritableAgain.{IsWritableOverSrtp, IsRead, MayBeWrittenAgain}

pub returns-clause-read_is_writable : goal.returns-clause-read_is_writable
returns-clause-read_is_writable c = read_is_writable c.args.sdp.now c.args.section

pub returns-clause-of_reading : goal.returns-clause-of_reading
returns-clause-of_reading c =
    let sdp = c.args.sdp.now in
    let i = c.args.section in
    let is : (answer : Bool) → (IsTrue answer ↔ Writable sdp i) → IsRead sdp → MayBeWrittenAgain sdp → IsWritableOverSrtp sdp i
    → IsTrue answer
    = λ answer exact read may at. exact.1 (read_is_writable sdp i read may at) in
    IfOk-weaker _ _ _ is c.surroundings_come_back.ensures

pub returns-clause-read_back : goal.returns-clause-read_back
returns-clause-read_back c = λ is rows.
    reads_back c.args.sdp.now c.args.section ((rw is at c.surroundings_come_back.ensures).0 refl) rows
