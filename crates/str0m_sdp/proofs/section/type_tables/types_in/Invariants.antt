use Rattle.str0m_sdp.proofs.Common.{◌≡◌, ◌==◌, ◌<◌, ℕ, false, get_or, length, take, list_any}
use Rattle.str0m_sdp.proofs.section.type_tables.types_in.Given as goal

-- each row says whether its type stands in the list so far
abbrev pub invariant-loop-pt : goal.invariant-loop-pt
invariant-loop-pt l = (length l.types ≡ 256) × ((pt : ℕ) → pt < 256
    → get_or l.types pt false ≡ list_any (λ n. n == pt) (take l.pt-index l.pts))
