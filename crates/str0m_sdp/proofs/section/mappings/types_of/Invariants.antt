use Rattle.str0m_sdp.proofs.Common.{◌≡◌, ◌<◌, ℕ, false, get_or, length, take, list_any}
use Rattle.str0m_sdp.proofs.section.mappings.types_of.Given as goal
use Rattle.str0m_sdp.specs.section.Mappings.{codec_of_type, stands_for_codec}

-- each row says whether its type stands for the codec so far
abbrev pub invariant-loop-row : goal.invariant-loop-row
invariant-loop-row l = (length l.types ≡ 256) × ((pt : ℕ) → pt < 256
    → get_or l.types pt false ≡ list_any (λ row. stands_for_codec l.codec pt (codec_of_type row)) (take l.row-index l.mapped))
