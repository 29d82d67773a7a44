use Rattle.str0m_sdp.proofs.session.Sdp.assert_consistency.Goals as goal
use Rattle.str0m_sdp.proofs.session.SessionFaultLaws.{sdp_if_ok, fault_unless_some}

pub returns-in-None-clause-exact : goal.returns-in-None-clause-exact
returns-in-None-clause-exact c =
    let none = fault_unless_some c.in_ok-message.field-0 c.in_default.not-Some in
    let sections = rw (none, c.as_slice.ensures) at c.in_ok-message.ensures.first in
    let session = rw c.in-None.is at c.in_ok-fault.ensures.fault in
    sdp_if_ok c.args.self.now sections session
