use Rattle.str0m_formats.proofs.Common.{◌≡◌, ℕ, List, sym, ap, ◌∙◌, subst, rules, arith, length-set}
use Rattle.str0m_formats.proofs.row.RedDistances.{distances_kept_none, distances_kept_taken, distances_kept_skipped, kept_distances}
use Rattle.str0m_formats.proofs.row.red_distances.RedDistances.kept.Goals as goal
use Rattle.str0m_formats.proofs.row.red_distances.RedDistances.kept.Goals.{then-is_distance_kept, else-is_distance_kept}
use Rattle.str0m_formats.specs.row.RedDistances.{AreDistances, distances_kept_to}

pub loop-seen-init : goal.loop-seen-init
loop-seen-init c = record { room = search rules; fits = omega arith; kept = sym (distances_kept_none c.args.given.now) }

pub loop-seen-preserved : goal.loop-seen-preserved
loop-seen-preserved c = grind (
  arith,
  then-is_distance_kept,
  length-set,
  distances_kept_taken,
  else-is_distance_kept,
  distances_kept_skipped,
)

pub invariant_of-result : goal.invariant_of-result
invariant_of-result c =
    let all : c.loop-seen.seen ≡ 16 = omega arith in
    let P : List ℕ → Type 0 = λ kept. AreDistances kept in (
      omega arith,
      subst P (sym (c.loop-seen.invariant.kept ∙ ap (λ n. distances_kept_to n c.args.given.now) all))
          (kept_distances c.args.given.now),
    )
