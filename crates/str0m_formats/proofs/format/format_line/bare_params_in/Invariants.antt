use Rattle.str0m_formats.proofs.Common.{length, take}
use Rattle.str0m_formats.proofs.format.format_line.bare_params_in.Given as goal
use Rattle.str0m_formats.specs.format.FormatLine.{pieces, IsFormatOfBares}

-- what the pieces so far say
abbrev pub invariant-loop-piece : goal.invariant-loop-piece
invariant-loop-piece l =
    (goal.iterator-loop-piece).can_next l.piece-iterator ×
    (goal.iterator-loop-piece).is_finite l.piece-iterator ×
    IsFormatOfBares (take (length l.yielded) (pieces l.line)) l.format
