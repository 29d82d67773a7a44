use Rattle.str0m_formats.proofs.Common.{◌++◌, ◌∷◌, [], List, Option, IfSome, ◌<◌, ℕ, ap, sym, subst, ◌∙◌, append_assoc, All-cons, Bor}
use Rattle.str0m_formats.proofs.Common.{rules}
use Rattle.str0m_formats.proofs.round.ChoiceFromBack.{choice_in_front, full_is_choice, less_than_full, all_were_seen}
use Rattle.str0m_formats.proofs.round.ChoiceSteps.{IsChoiceSoFar}
use Rattle.str0m_formats.proofs.round.MatchScoreBound.{points_bound}
use Rattle.str0m_formats.proofs.round.claims.Claims.choice.Goals as goal
use Rattle.str0m_formats.specs.declared.row.payload_params.PayloadParams.{PayloadParams}
use Rattle.str0m_formats.specs.round.Choices.{IsBestChoice, choice_points_for, seen_best_choice}

pub loop-theirs-preserved : goal.loop-theirs-preserved
loop-theirs-preserved g c =
    let points = choice_points_for (g.C.Claimed.holds c.args.self.now.claimed) c.args.self.now.receives c.args.row.now in
    let last = rw c.in-Some.is at c.split_last.ensures.cases in
    let it = c.loop-theirs.invariant in
    let theirs = c.in-Some.theirs.now in (
      theirs ∷ it.0,
      it.1 ∙ ap (λ (xs : List PayloadParams). xs ++ it.0) last.0 ∙ append_assoc c.in-Some.front.now (theirs ∷ []) it.0,
      All-cons (λ row. IfSome (points row) (λ n. n < 100)) theirs it.0
          (less_than_full (points theirs)
          (points_bound (g.C.Claimed.holds c.args.self.now.claimed) c.args.self.now.receives c.args.row.now theirs)
          (search rules)) it.2,
      rw c.earlier_row-best.ensures
          (choice_in_front points it.0 (seen_best_choice c.loop-theirs.best) theirs c.points-points.result (sym c.points-points.ensures)
          it.3),
    )

pub returns-in-Some-eq100 : goal.returns-in-Some-eq100
returns-in-Some-eq100 g c =
    let points = choice_points_for (g.C.Claimed.holds c.args.self.now.claimed) c.args.self.now.receives c.args.row.now in
    let last = rw c.in-Some.is at c.split_last.ensures.cases in
    let it = c.loop-theirs.invariant in
    let theirs = c.in-Some.theirs.now in
    let whole = it.1 ∙ ap (λ (xs : List PayloadParams). xs ++ it.0) last.0 ∙ append_assoc c.in-Some.front.now (theirs ∷ []) it.0 in
    subst (λ (rows : List PayloadParams). IsBestChoice points rows theirs) (sym whole)
    (full_is_choice points c.in-Some.front.now it.0 theirs 100 (sym c.points-points.ensures ∙ search rules)
    (λ k d lt. points_bound (g.C.Claimed.holds c.args.self.now.claimed) c.args.self.now.receives c.args.row.now _) it.2)

pub returns-in-None : goal.returns-in-None
returns-in-None g c =
    let points = choice_points_for (g.C.Claimed.holds c.args.self.now.claimed) c.args.self.now.receives c.args.row.now in
    let none = rw c.in_default.is at c.split_last.ensures.cases in
    let it = c.loop-theirs.invariant in
    let seen = all_were_seen c.args.remote.now c.loop-theirs.rest.now it.0 it.1 none in
    let P : List PayloadParams → Type 0 = λ rows. IsChoiceSoFar points rows (seen_best_choice c.loop-theirs.best) in
    let Q : Option (Bor PayloadParams × ℕ) → Type 0 = λ best. IsChoiceSoFar points c.args.remote.now (seen_best_choice best) in
    subst Q c.in-None.is (subst P (sym seen) it.3)
