use Rattle.c_parts.proofs.source_group.groups_among.Given as goal
use Rattle.c_parts.specs.SourceGroup.{groups_numbered_from, grouped_ssrcs_of}
use Rattle.std.specs.Prelude.{◌≡◌, ◌≤◌, filter_map, length, take}

-- the groups so far, and how many they are
abbrev pub invariant-loop-line : goal.invariant-loop-line
invariant-loop-line l = record {
  made : l.made.items ≡ groups_numbered_from 0 (filter_map grouped_ssrcs_of (take l.line-index l.lines));
  count : l.group ≡ length (filter_map grouped_ssrcs_of (take l.line-index l.lines));
  within : l.group ≤ l.line-index;
}
