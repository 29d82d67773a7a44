use Rattle.str0m_sdp.proofs.Common.{◌≡◌, drop, ◌↔◌}
use Rattle.str0m_sdp.proofs.section.alike.are_alike_shown.Given as goal
use Rattle.str0m_sdp.specs.section.Alike.{alike_shown}

-- the same is shown of all where the same is shown of what is left of both
abbrev pub invariant-loop-value : goal.invariant-loop-value
invariant-loop-value l = (alike_shown (drop l.value-index l.fn.values) ≡ alike_shown l.left)
    ↔ (alike_shown l.fn.values ≡ alike_shown l.fn.others)
