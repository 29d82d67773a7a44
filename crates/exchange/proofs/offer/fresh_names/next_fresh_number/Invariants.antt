use Rattle.exchange.proofs.Common.{◌≡◌, ◌<◌, ◌≤◌, ℕ, true}
use Rattle.exchange.proofs.offer.fresh_names.next_fresh_number.Given as goal
use Rattle.exchange.specs.offer.FreshNames.{is_name_number_taken}

-- the numbers so far are taken
abbrev pub invariant-loop-number : goal.invariant-loop-number
invariant-loop-number l = (k : ℕ) → l.from ≤ k → k < l.number → is_name_number_taken l.taken k ≡ true
