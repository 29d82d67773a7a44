use Rattle.str0m_signal.proofs.Common.{IfOk-weaker, media_attribute_text}
use Rattle.str0m_signal.proofs.back.ReadBackLaws.{back_by_form}
use Rattle.str0m_signal.proofs.back.attributes_back.media_back.Goals as goal
use Rattle.str0m_signal.proofs.form.MediaAttributeLaws.{media_line_both}
use Rattle.str0m_signal.specs.back.Writable.{MediaGoesWith}
use Rattle.str0m_signal.specs.form.MediaAttribute.{IsMediaLine, media_read}

pub returns : goal.returns
returns c =
    IfOk-weaker c.read_back.result _ _
    (λ found. back_by_form media_attribute_text IsMediaLine media_read MediaGoesWith media_line_both c.args.attrs.now found)
    c.read_back.ensures
