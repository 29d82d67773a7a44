use Rattle.str0m_sdp.proofs.Common.{◌≡◌, drop, ◌↔◌}
use Rattle.str0m_sdp.proofs.section.alike.have_alike_names.Given as goal
use Rattle.str0m_sdp.specs.section.Alike.{layer_ids}

-- all names are the same where those are that are left on both sides
abbrev pub invariant-loop-i : goal.invariant-loop-i
invariant-loop-i l = (layer_ids (drop l.i l.fn.layers) ≡ layer_ids (drop l.i l.fn.others)) ↔ (layer_ids l.fn.layers ≡ layer_ids l.fn.others)
