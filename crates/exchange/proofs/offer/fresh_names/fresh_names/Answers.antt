use Rattle.exchange.proofs.Common.{arith, ◌≡◌, ◌+◌, ◌++◌, List, [], ◌∷◌, ℕ, decimal, length-append, ap, subst, sym, ◌∙◌}
use Rattle.exchange.proofs.offer.FreshNamesLaws.{fresh_more}
use Rattle.exchange.proofs.offer.fresh_names.fresh_names.Goals as goal
use Rattle.exchange.specs.offer.FreshNames.{AreFresh, IsNextFreshNumber}

pub loop-alloc-preserved : goal.loop-alloc-preserved
loop-alloc-preserved c =
    let taken = c.args.taken.now in
    let names = c.loop-alloc.names in
    let n = c.in-Some.number in
    let next : IsNextFreshNumber taken c.loop-alloc.from n = rw c.in-Some.is at c.in_ok-number.ensures in
    let pushed : c.push.new.self ≡ names ++ decimal n ∷ [] =
    c.in_ok-push.ensures.ok ∙ ap (λ (name : List ℕ). names ++ name ∷ []) (c.in_ok-number_name.ensures next.bounded) in
    record {
      fresh = subst (λ (all : List (List ℕ)). AreFresh taken 0 all (n + 1)) (sym pushed)
          (fresh_more taken 0 names c.loop-alloc.from n c.loop-alloc.invariant.fresh next);
      most = grind (arith, length-append, pushed);
    }
