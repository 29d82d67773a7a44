use Rattle.exchange.proofs.Common.{length, ◌↔◌, AllZip, Alike}
use Rattle.exchange.proofs.state.read_back.are_read_attributes_alike.Given as goal

-- all are alike where those are that are left
abbrev pub invariant-loop-attr : goal.invariant-loop-attr
invariant-loop-attr l = AllZip Alike l.fn.said l.fn.read ↔ AllZip Alike l.left l.reads

abbrev pub decreases-loop-attr : goal.decreases-loop-attr
decreases-loop-attr l = length l.left
