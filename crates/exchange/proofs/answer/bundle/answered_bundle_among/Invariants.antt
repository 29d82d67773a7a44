use Rattle.exchange.proofs.Common.{◌≡◌, Some, filter, take, is_group_listed}
use Rattle.exchange.proofs.answer.bundle.answered_bundle_among.Given as goal

-- those so far that are listed
abbrev pub invariant-loop-mid : goal.invariant-loop-mid
invariant-loop-mid l = l.mids.items ≡ filter (λ mid. is_group_listed l.names (Some mid)) (take l.mid-index l.group)
