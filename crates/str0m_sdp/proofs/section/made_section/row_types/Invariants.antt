use Rattle.str0m_sdp.proofs.Common.{◌≡◌, take, types}
use Rattle.str0m_sdp.proofs.section.made_section.row_types.Given as goal

-- the types of the rows so far
abbrev pub invariant-loop-row : goal.invariant-loop-row
invariant-loop-row l = l.pts.items ≡ types (take l.row-index l.rows)
