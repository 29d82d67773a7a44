use Rattle.c_parts.proofs.source_group.push_group_members.Given as goal
use Rattle.c_parts.specs.SourceGroup.{c_members}
use Rattle.std.specs.Prelude.{◌≡◌, ◌++◌, take}

-- the sources so far
abbrev pub invariant-loop-ssrc : goal.invariant-loop-ssrc
invariant-loop-ssrc l = l.made.items ≡ l.fn.made.items ++ c_members l.group (take l.ssrc-index l.ssrcs)
