-- What is read of a line that is to be one candidate's and nothing more.
use Rattle.exchange.proofs.Common.{◌≡◌, ℕ, List, [], Result, Ok, Err, ap, subst, sym, SdpError, ParseError, Inconsistent, Memory}
use Rattle.exchange.proofs.Common.{IsCandidateLine, FirstLine, Answers, AtMostOneAnswer, ReaderRefuses, Candidate}
use Rattle.str0m_signal.proofs.{attribute_both, first_line_one}
use Rattle.str0m_signal.proofs.Common.{candidate_both}

-- a line has one reading: so there is another with nothing left where this is it
pub trickled_only_candidate_so : {V : Type 0} (P : V × List ℕ → Type 0) (value : V) (rest : List ℕ) (r : Result V SdpError)
    → P (value, rest) → AtMostOneAnswer P
    → Answers (λ read. read) r (λ read. (read ≡ value) × (rest ≡ [])) → Answers (λ read. read) r (λ read. P (read, []))
trickled_only_candidate_so {V} P value rest (Ok read) there one (same, ends) =
    subst (λ (left : List ℕ). P (read, left)) ends (subst (λ (other : V). P (other, rest)) (sym same) there)
trickled_only_candidate_so {V} P value rest (Err (ParseError message)) there one refuses =
    λ read other.
    let same : (read, []) ≡ (value, rest) = one (read, []) (value, rest) other there in
    refuses read (ap (λ (found : V × List ℕ). found.0) same, sym (ap (λ (found : V × List ℕ). found.1) same))
trickled_only_candidate_so P value rest (Err (Inconsistent message)) there one refuses = refuses
trickled_only_candidate_so P value rest (Err Memory) there one refuses = tt

pub trickled_no_candidate_so : {V : Type 0} (P : V × List ℕ → Type 0) (error : SdpError) → ReaderRefuses error P
    → ReaderRefuses error (λ read. P (read, []))
trickled_no_candidate_so P (ParseError message) refuses = λ read there. refuses (read, []) there
trickled_no_candidate_so P (Inconsistent message) refuses = refuses
trickled_no_candidate_so P Memory refuses = tt

-- a line is one candidate's
pub one_candidate : (line : List ℕ) → AtMostOneAnswer (λ (candidate : Candidate). FirstLine IsCandidateLine line (candidate, []))
one_candidate line read other there here =
    ap (λ (found : Candidate × List ℕ). found.0) (first_line_one (attribute_both candidate_both) line (read, []) (other, []) there here)

-- of the line that a text makes
pub trickled_made_along : (P : List ℕ → Candidate → Type 0) (line made : List ℕ) (r : Result Candidate SdpError) → line ≡ made
    → Answers (λ read. read) r (P line) → Answers (λ read. read) r (P made)
trickled_made_along P line made r same h = subst (λ (text : List ℕ). Answers (λ read. read) r (P text)) same h
