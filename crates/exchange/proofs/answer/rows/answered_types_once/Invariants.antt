use Rattle.exchange.proofs.Common.{◌≡◌, ◌==◌, take, distinct}
use Rattle.exchange.proofs.answer.rows.answered_types_once.Given as goal

-- the types so far, each once
abbrev pub invariant-loop-pt : goal.invariant-loop-pt
invariant-loop-pt l = l.once.items ≡ distinct ◌==◌ (take l.pt-index l.listed)
