use Rattle.str0m_formats.proofs.Common.{◌≡◌, ◌≤◌, length, take}
use Rattle.str0m_formats.proofs.row.red_distances.RedDistances.kept.Given as goal
use Rattle.str0m_formats.specs.row.RedDistances.{distances_kept_to}

-- what is kept of the numbers so far, of which there are no more
abbrev pub invariant-loop-seen : goal.invariant-loop-seen
invariant-loop-seen l = record {
  room : length l.levels ≡ 16;
  fits : l.count ≤ l.seen;
  kept : take l.count l.levels ≡ distances_kept_to l.seen l.given;
}
