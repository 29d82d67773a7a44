use Rattle.str0m_values.proofs.CutLaws.{cut_before_ends}
use Rattle.str0m_values.proofs.LabelLaws.{word_before}
use Rattle.str0m_values.proofs.labels.word.Goals as goal

pub range_from-requires : goal.range_from-requires
range_from-requires c = λ _.
    rw c.before-word.ensures (cut_before_ends 32 c.args.text.now c.utf8.text (rw (← c.before-word.ensures) c.before-word.utf8))

pub returns : goal.returns
returns c = rw (c.range_from.ensures.value, c.before-word.ensures)
    (word_before c.args.text.now (rw (← c.before-word.ensures) c.if-is_empty.ensures))
