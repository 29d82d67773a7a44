use Rattle.str0m_signal.proofs.Common.{arith}
use Rattle.str0m_signal.proofs.line.LinesLaws.{line_without_suffix}
use Rattle.str0m_signal.proofs.line.WordsLaws.{word_space_gone}
use Rattle.str0m_signal.proofs.line.words.without_word_space.Goals as goal

pub returns : goal.returns
returns c = rw c.unwrap_or.ensures
    (word_space_gone c.args.text.now _
    (line_without_suffix 32 (omega arith) c.args.text c.strip_suffix.result c.strip_suffix.ensures.cases))
