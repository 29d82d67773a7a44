use Rattle.exchange.proofs.Common.{◌≡◌, ◌++◌, take, map}
use Rattle.exchange.proofs.answer.accepted.push_candidates.Given as goal
use Rattle.exchange.specs.answer.Accepted.{candidate_line}

-- the lines of the candidates so far stand after the others
abbrev pub invariant-loop-candidate : goal.invariant-loop-candidate
invariant-loop-candidate l = l.lines.items ≡ l.initial.lines.items ++ map candidate_line (take l.candidate-index l.candidate-items)
