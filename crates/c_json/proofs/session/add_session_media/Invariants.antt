use Rattle.c_json.proofs.session.add_session_media.Given as goal
use Rattle.std.proofs.Common.{◌≡◌}

-- the list is still open
abbrev pub invariant-loop-section : goal.invariant-loop-section
invariant-loop-section l = l.json ≡ l.initial.json
