use Rattle.c_calls.proofs.line_texts.line_with_text_at.Goals as goal
use Rattle.std.proofs.Common.{rules, tests}
use Rattle.std.proofs.lemmas.Iterator.{YieldsList-from_slice}
use Rattle.std.proofs.lemmas.Iterator.Consumers.{YieldsList-from_filter, nth_from_yields_List}

pub returns : goal.returns
returns c =
    nth_from_yields_List _ _ c.args.index c.nth.ensures.ran
    (YieldsList-from_filter _ _ (YieldsList-from_slice c.args.lines.now (cc)) c.filter.ensures.closure (λ x r q k. search (rules, tests)))
