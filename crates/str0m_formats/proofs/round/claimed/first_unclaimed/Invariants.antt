use Rattle.str0m_formats.proofs.Common.{◌≡◌, ◌||◌, false, not, find, slice_index_or, drop, flat_map}
use Rattle.str0m_formats.proofs.round.claimed.first_unclaimed.Given as goal
use Rattle.str0m_formats.specs.round.Claimed.{range_types, claim_order}

-- the search from this range on has the answer of the whole search
abbrev pub invariant-loop-first : goal.invariant-loop-first
invariant-loop-first l =
    find (λ t. not (slice_index_or l.claimed t false || slice_index_or l.unlocked t false))
    (flat_map range_types (drop l.first-index l.first-items))
    ≡ find (λ t. not (slice_index_or l.claimed t false || slice_index_or l.unlocked t false)) claim_order
