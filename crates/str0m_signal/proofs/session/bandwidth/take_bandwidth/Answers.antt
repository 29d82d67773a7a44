use Rattle.str0m_signal.proofs.Common.{sym}
use Rattle.str0m_signal.proofs.line.LinesChainLaws.{chain_taken_none}
use Rattle.str0m_signal.proofs.line.LinesLaws.{line_found}
use Rattle.str0m_signal.proofs.session.SectionLaws.{bandwidth_both}
use Rattle.str0m_signal.proofs.session.bandwidth.take_bandwidth.Goals as goal
use Rattle.str0m_signal.specs.line.LinesReading.{lines_of}

pub returns-in-Some : goal.returns-in-Some
returns-in-Some c =
    let read = rw c.in-Some.is at c.in_ok-bandwidth.ensures in
    line_found bandwidth_both (lines_of c.args.text.now) c.in-Some.bandwidth (lines_of c.in-Some.rest.now) (sym read)

pub returns-in-None : goal.returns-in-None
returns-in-None c = chain_taken_none bandwidth_both c.args.text.now (rw c.in-None.is at c.in_ok-bandwidth.ensures)
