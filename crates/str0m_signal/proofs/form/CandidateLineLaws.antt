-- How the text of a candidate begins.
use Rattle.str0m_signal.proofs.Common.{arith, ◌≡◌, ℕ, List, ◌++◌, IsCandidateText}
use Rattle.str0m_values.specs.declared.candidate.Candidate.{Candidate}
use Rattle.str0m_values.specs.declared.candidate_label.TheConstants as candidate_label

pub candidate_begins : (text : List ℕ) (candidate : Candidate) → IsCandidateText text candidate
    → (more : List ℕ) × (text ≡ candidate_label.CANDIDATE.now ++ more)
candidate_begins text candidate h = grind arith
