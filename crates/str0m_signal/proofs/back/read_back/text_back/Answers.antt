use Rattle.str0m_signal.proofs.Common.{[], sym, ◌∙◌, append-nil}
use Rattle.str0m_signal.proofs.back.ReadBackLaws.{empty_back}
use Rattle.str0m_signal.proofs.back.read_back.text_back.Goals as goal

pub returns-then-is_empty : goal.returns-then-is_empty
returns-then-is_empty g c = (
  [],
  empty_back (λ _. c.args.text.now) _ g.A.ReadBack.GoesWith c.args.attr.now (sym c.is_empty.ensures ∙ c.if-is_empty.true),
  sym (append-nil c.args.reads.now.items),
)
