use Rattle.show.proofs.NegotiationLinesLaws.{one_outcome_line_more}
use Rattle.show.proofs.negotiation_lines.outcome_lines.Goals as goal
use Rattle.show.specs.NegotiationLines.{outcome_line}
use Rattle.std.proofs.Common.{◌+◌, ◌++◌, List, ℕ, sym, ap, ◌∙◌}
use Rattle.std.specs.String.{string_bytes}

pub loop-i-preserved : goal.loop-i-preserved
loop-i-preserved c =
    let i = c.loop-i.i in
    let outcome = c.index-outcomes-i.result in
    c.in_ok-push_str.ensures.bytes
    ∙ ap (λ (line : List ℕ). string_bytes c.loop-i.text ++ line) (c.as_str.ensures.value ∙ c.in_ok-line.ensures.ok)
    ∙ ap (λ (lines : List ℕ). lines ++ outcome_line (i + 1) outcome) c.loop-i.invariant
    ∙ sym (one_outcome_line_more c.args.outcomes.now i outcome c.loop-i-test.true c.index-outcomes-i.is)
