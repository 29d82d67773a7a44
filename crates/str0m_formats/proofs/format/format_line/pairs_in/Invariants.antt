use Rattle.str0m_formats.proofs.Common.{◌≡◌, length, take}
use Rattle.str0m_formats.proofs.format.format_line.pairs_in.Given as goal
use Rattle.str0m_formats.specs.format.FormatLine.{pieces, pairs_in}
use Rattle.str0m_formats.specs.format.FormatParam.{pair_texts}

-- the pairs of the pieces so far
abbrev pub invariant-loop-piece : goal.invariant-loop-piece
invariant-loop-piece l =
    (goal.iterator-loop-piece).can_next l.piece-iterator ×
    (goal.iterator-loop-piece).is_finite l.piece-iterator ×
    (pair_texts l.pairs.items ≡ pairs_in (take (length l.yielded) (pieces l.line)))
