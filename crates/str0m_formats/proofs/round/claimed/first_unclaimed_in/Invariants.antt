use Rattle.str0m_formats.proofs.Common.{◌≡◌, ◌+◌, ◌||◌, ◌-◌, false, not, find, slice_index_or, range_with_len}
use Rattle.str0m_formats.proofs.round.claimed.first_unclaimed_in.Given as goal
use Rattle.str0m_formats.specs.round.Claimed.{range_types}

-- the search from here on has the answer of the whole search
abbrev pub invariant-loop-t : goal.invariant-loop-t
invariant-loop-t l =
    find (λ t. not (slice_index_or l.claimed t false || slice_index_or l.unlocked t false)) (range_with_len l.t (l.last + 1 - l.t))
    ≡ find (λ t. not (slice_index_or l.claimed t false || slice_index_or l.unlocked t false)) (range_types (l.first, l.last))
