use Rattle.str0m_signal.proofs.Common.{option_map, IfOk-weaker}
use Rattle.str0m_signal.proofs.back.ReadBackLaws.{read_back_printed_by}
use Rattle.str0m_signal.proofs.back.section_back.head_back.Goals as goal
use Rattle.str0m_signal.proofs.session.SectionLaws.{head_both}
use Rattle.str0m_signal.specs.line.Heads.{media_head}

pub returns-in-Some : goal.returns-in-Some
returns-in-Some c =
    IfOk-weaker c.head.result _ _
    (λ found is. read_back_printed_by head_both c.args.text.now c.in-Some.line.now (option_map media_head found) c.in-Some.ensures is)
    c.head.ensures
