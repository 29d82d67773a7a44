use Rattle.str0m_signal.proofs.Common.{IfOk-weaker, session_attribute_text}
use Rattle.str0m_signal.proofs.back.ReadBackLaws.{back_by_form}
use Rattle.str0m_signal.proofs.back.attributes_back.session_back.Goals as goal
use Rattle.str0m_signal.proofs.form.SessionAttributeAgain.{session_line_both}
use Rattle.str0m_signal.specs.back.Writable.{SessionGoesWith}
use Rattle.str0m_signal.specs.form.SessionAttribute.{IsSessionLine, session_read}

pub returns : goal.returns
returns c =
    IfOk-weaker c.read_back.result _ _
    (λ found. back_by_form session_attribute_text IsSessionLine session_read SessionGoesWith session_line_both c.args.attrs.now found)
    c.read_back.ensures
