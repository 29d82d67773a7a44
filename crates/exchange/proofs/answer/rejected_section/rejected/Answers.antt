use Rattle.exchange.proofs.answer.RejectedSectionLaws.{rejecting_consistent}
use Rattle.exchange.proofs.answer.rejected_section.rejected.Goals as goal

pub returns-clause-consistent : goal.returns-clause-consistent
returns-clause-consistent c = rejecting_consistent c.args.offered.now c.in_ok-section.section c.in_ok-section.ensures
