use Rattle.exchange.proofs.answer.InForceLaws.{of_section, of_session}
use Rattle.exchange.proofs.answer.in_force.preferred_in_force.Goals as goal

pub returns-in-Some : goal.returns-in-Some
returns-in-Some c = of_section _ _ _ (rw c.in-Some.is at c.in_ok-fingerprint.ensures)

pub returns-in-None : goal.returns-in-None
returns-in-None c = of_session _ _ _ (rw c.in-None.is at c.in_ok-fingerprint.ensures) c.fingerprint-in-None.ensures
