use Rattle.exchange.proofs.Common.{◌≡◌, filter, not, take}
use Rattle.exchange.proofs.state.own_side.with_own_side_entry.Given as goal
use Rattle.exchange.specs.state.OwnSide.{is_own_side_entry_of}

-- those so far that are of another name
abbrev pub invariant-loop-entry : goal.invariant-loop-entry
invariant-loop-entry l = l.after.items ≡ filter (λ entry. not (is_own_side_entry_of l.mid entry)) (take l.entry-index l.entries)
