use Rattle.exchange.proofs.Common.{sym, ◌∙◌}
use Rattle.exchange.proofs.state.CopiedOverLaws.{copied_same_if_alike}
use Rattle.exchange.proofs.state.copied_over.copy_over_line.Goals as goal

pub returns-else-read_back_may_differ : goal.returns-else-read_back_may_differ
returns-else-read_back_may_differ c = copied_same_if_alike c.args.source.now c.args.line.now
    (sym c.read_back_may_differ.ensures ∙ c.if-read_back_may_differ.false)
    c.requires
