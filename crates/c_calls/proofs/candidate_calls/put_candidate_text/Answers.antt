use Rattle.c_calls.proofs.candidate_calls.put_candidate_text.Goals as goal
use Rattle.str0m_values.specs.Candidate.{candidate_text}

pub returns-in-Some : goal.returns-in-Some
returns-in-Some c = rw c.in-Some.is (c.put_said_text.ensures (candidate_text c.in-Some.candidate.now) c.to_sdp_string.ensures)
