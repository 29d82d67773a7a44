use Rattle.str0m_sdp.proofs.Common.{◌≡◌, ◌==◌, ◌<◌, ℕ, false, get_or, length, take, list_any}
use Rattle.str0m_sdp.proofs.section.mappings.mapped_types.Given as goal

-- each row says whether its type is mapped so far
abbrev pub invariant-loop-row : goal.invariant-loop-row
invariant-loop-row l = (length l.types ≡ 256) × ((pt : ℕ) → pt < 256
    → get_or l.types pt false ≡ list_any (λ row. row.pt == pt) (take l.row-index l.mapped))
