use Rattle.str0m_formats.proofs.Common.{ℕ, List, Option, sym, ◌∙◌, subst, take_all, Bor}
use Rattle.str0m_formats.proofs.round.ChoiceSteps.{IsChoiceSoFar, choice_next}
use Rattle.str0m_formats.proofs.row.codec_config.CodecConfig.match_params.Goals as goal
use Rattle.str0m_formats.specs.declared.row.payload_params.PayloadParams.{PayloadParams}
use Rattle.str0m_formats.specs.round.Choices.{choice_points_with, seen_best_choice}

pub loop-row-preserved : goal.loop-row-preserved
loop-row-preserved c =
    choice_next (choice_points_with c.args.params) c.as_slice-row-items.result.now c.loop-row.row-index c.row-item.result
    c.match_score.result
    (seen_best_choice c.loop-row.best) _
    c.loop-row-test.true c.row-item.is (sym c.match_score.ensures.score) c.better_row-best.ensures c.loop-row.invariant

pub returns-in-None : goal.returns-in-None
returns-in-None c =
    let points = choice_points_with c.args.params in
    let P : List PayloadParams → Type 0 = λ rows. IsChoiceSoFar points rows (seen_best_choice c.loop-row.best) in
    let Q : Option (Bor PayloadParams × ℕ) → Type 0 = λ best. IsChoiceSoFar points c.args.self.now.params.items (seen_best_choice best) in
    let whole = take_all c.loop-row.row-index c.as_slice-row-items.result.now c.loop-row-test.false ∙ c.as_slice-row-items.ensures.value in
    subst Q c.in-None.is (subst P whole c.loop-row.invariant)
