use Rattle.str0m_signal.proofs.Common.{IfOk-weaker}
use Rattle.str0m_signal.proofs.back.ReadBackLaws.{read_back_printed_by}
use Rattle.str0m_signal.proofs.back.section_back.bandwidth_line_back.Goals as goal
use Rattle.str0m_signal.proofs.session.SectionLaws.{bandwidth_both}

pub returns-in-Some : goal.returns-in-Some
returns-in-Some c =
    IfOk-weaker c.bandwidth.result _ _
    (λ found is. read_back_printed_by bandwidth_both c.args.text.now c.in-Some.line.now found c.in-Some.ensures is)
    c.bandwidth.ensures
