use Rattle.lint.proofs.Common.{length}
use Rattle.lint.proofs.fork.is_fork_of_spelling.Given as goal

abbrev pub invariant-loop-byte : goal.invariant-loop-byte
invariant-loop-byte l = Unit {0}

abbrev pub decreases-loop-byte : goal.decreases-loop-byte
decreases-loop-byte l = length l.left
