use Rattle.exchange.proofs.Common.{◌++◌, ℕ, List, [], ◌∷◌, ap, ◌∙◌, MediaAttribute}
use Rattle.exchange.proofs.answer.AcceptedLaws.{accepted_five_behind}
use Rattle.exchange.proofs.answer.accepted.push_media.Goals as goal
use Rattle.exchange.specs.section.RepeatedLines.{repeated_lines}

pub returns : goal.returns
returns c =
    accepted_five_behind c.args.lines.now.items _ _ _ _ _ _ _ _ _ _
    (c.in_ok-push.ensures.items ∙ ap (λ (line : MediaAttribute). c.args.lines.now.items ++ line ∷ []) c.from.ensures)
    c.in_ok-push_candidates.ensures
    (c.in_ok-push_repeated.ensures
    ∙ ap (λ (known : List (List ℕ)). c.push_candidates.new.lines.items ++ repeated_lines known c.args.offered.now) c.as_slice.ensures)
    c.in_ok-push_msid.ensures
    (c.in_ok-append.ensures.items ∙ ap (λ (lines : List MediaAttribute). c.push_msid.new.lines.items ++ lines)
    c.in_ok-layer_lines.ensures)
