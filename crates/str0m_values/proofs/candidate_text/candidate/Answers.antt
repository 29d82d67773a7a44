use Rattle.str0m_values.proofs.CandidateLaws.{candidate_both}
use Rattle.str0m_values.proofs.CandidateText.{printed_candidate}
use Rattle.str0m_values.proofs.Common.{◌≡◌, Result, Ok, Err, Option, Some, List, ℕ, ◌∙◌, ap, IfOk}
use Rattle.str0m_values.proofs.CutsOnlyLaws.{only_read}
use Rattle.str0m_values.proofs.candidate_text.candidate.Goals as goal
use Rattle.str0m_values.specs.Candidate.{IsCandidateText, IsPrintableCandidate, candidate_text}
use Rattle.str0m_values.specs.CandidateReading.{candidate_read}
use Rattle.str0m_values.specs.Cuts.{IsTheOnly}
use Rattle.str0m_values.specs.declared.candidate.Candidate.{Candidate}

candidate_found : {E : Type 0} (text : List ℕ) (r : Result (Option Candidate) E) → IfOk r (λ found. found ≡ candidate_read text)
    → IfOk r (IsTheOnly (IsCandidateText text))
candidate_found text (Ok found) h = only_read candidate_both text found h
candidate_found text (Err e) h = tt

printed : {E : Type 0} (text : List ℕ) (r : Result (Option Candidate) E) → IfOk r (λ found. found ≡ candidate_read text) → (c : Candidate)
    → IsPrintableCandidate c → text ≡ candidate_text c → IfOk r (λ found. found ≡ Some c)
printed text (Ok found) h c fits is = h ∙ ap candidate_read is ∙ candidate_both.complete (candidate_text c) c (printed_candidate c fits)
printed text (Err e) h c fits is = tt

pub returns-clause-read : goal.returns-clause-read
returns-clause-read c = candidate_found c.args.text.now c.keep_candidate.result c.keep_candidate.ensures

pub returns-clause-printed : goal.returns-clause-printed
returns-clause-printed c = printed c.args.text.now c.keep_candidate.result c.keep_candidate.ensures
