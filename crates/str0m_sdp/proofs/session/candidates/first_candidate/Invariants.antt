use Rattle.str0m_sdp.proofs.Common.{◌≡◌, length, filter_map}
use Rattle.str0m_sdp.proofs.session.candidates.first_candidate.Given as goal

-- no candidate has been passed over
abbrev pub invariant-loop-attr : goal.invariant-loop-attr
invariant-loop-attr g l = filter_map g.A.TransportAttribute.candidate l.left ≡ filter_map g.A.TransportAttribute.candidate l.attrs

abbrev pub decreases-loop-attr : goal.decreases-loop-attr
decreases-loop-attr g l = length l.left
