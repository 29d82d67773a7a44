use Rattle.str0m_signal.proofs.Common.{rules, sym, ◌∙◌, code}
use Rattle.str0m_signal.proofs.line.PartLaws.{part_cut_shorter, one_part, bad_part, last_part}
use Rattle.str0m_signal.proofs.line.parts.part_count.Goals as goal

pub returns-then-not-is_part : goal.returns-then-not-is_part
returns-then-not-is_part g c = sym
    (bad_part (code c.args.at) g.T.Part.reading c.loop-part.rest.now c.in-Some.part.now c.in-Some.more.now (sym c.in-Some.ensures)
    (sym c.is_part.ensures ∙ c.if-not-is_part.true)) ∙ c.loop-part.invariant.1

pub loop-part-smaller : goal.loop-part-smaller
loop-part-smaller g c = part_cut_shorter (code c.args.at) c.loop-part.rest.now c.in-Some.part.now c.in-Some.more.now (sym c.in-Some.ensures)

pub loop-part-preserved : goal.loop-part-preserved
loop-part-preserved g c = (
  search rules,
  sym (one_part (code c.args.at) g.T.Part.reading c.loop-part.rest.now c.in-Some.part.now c.in-Some.more.now
      (sym c.in-Some.ensures) (sym c.is_part.ensures ∙ c.if-not-is_part.false)) ∙ c.loop-part.invariant.1,
)

pub returns-then-is_part : goal.returns-then-is_part
returns-then-is_part g c = sym c.if-is_part.true ∙ c.is_part-2.ensures
    ∙ sym (last_part (code c.args.at) g.T.Part.reading c.loop-part.rest.now (sym c.in_default.ensures)) ∙ c.loop-part.invariant.1

pub returns-else-is_part : goal.returns-else-is_part
returns-else-is_part g c = sym c.if-is_part.false ∙ c.is_part-2.ensures
    ∙ sym (last_part (code c.args.at) g.T.Part.reading c.loop-part.rest.now (sym c.in_default.ensures)) ∙ c.loop-part.invariant.1
