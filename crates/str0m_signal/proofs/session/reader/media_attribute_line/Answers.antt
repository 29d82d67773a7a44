use Rattle.str0m_signal.proofs.form.MediaAttributeLaws.{media_line_both}
use Rattle.str0m_signal.proofs.session.ReaderAnswerLaws.{first_line, first_line_one}
use Rattle.str0m_signal.proofs.session.ReaderRestLaws.{rest_one_leaves, left_from_line}
use Rattle.str0m_signal.proofs.session.reader.media_attribute_line.Goals as goal
use Rattle.str0m_signal.specs.form.MediaAttribute.{IsMediaLine}
use Rattle.str0m_signal.specs.line.Lines.{OneLine}

pub returns-clause-read : goal.returns-clause-read
returns-clause-read c = first_line media_line_both c.args.text.now c.first_attribute.result c.first_attribute.ensures

pub returns-clause-one : goal.returns-clause-one
returns-clause-one c = first_line_one media_line_both c.args.text.now

pub returns-clause-rest : goal.returns-clause-rest
returns-clause-rest c = left_from_line (OneLine IsMediaLine) (rest_one_leaves IsMediaLine) c.args.text.now c.first_attribute.result
    (returns-clause-read c)
