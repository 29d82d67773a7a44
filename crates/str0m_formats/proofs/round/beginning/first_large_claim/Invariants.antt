use Rattle.str0m_formats.proofs.Common.{◌≡◌, find, nat_lt, drop}
use Rattle.str0m_formats.proofs.round.beginning.first_large_claim.Given as goal
use Rattle.str0m_formats.specs.row.PayloadParams.{types}

-- the search from this row on has the answer of the whole search
abbrev pub invariant-loop-row : goal.invariant-loop-row
invariant-loop-row l = find (nat_lt 127) (types (drop l.row-index l.rows)) ≡ find (nat_lt 127) (types l.rows)
