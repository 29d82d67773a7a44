use Rattle.exchange.proofs.Common.{ℕ, List, [], ◌∙◌, IsCandidateLine, FirstLine, Candidate}
use Rattle.exchange.proofs.section.TrickledLaws.{trickled_made_along, one_candidate}
use Rattle.exchange.proofs.section.trickled.trickled_candidate.Goals as goal
use Rattle.exchange.specs.section.Trickled.{trickled_as_line}

pub returns-in_err-line-clause-one : goal.returns-in_err-line-clause-one
returns-in_err-line-clause-one c = one_candidate (trickled_as_line c.args.text.now)

pub returns-clause-read : goal.returns-clause-read
returns-clause-read c =
    trickled_made_along (λ (line : List ℕ) (candidate : Candidate). FirstLine IsCandidateLine line (candidate, [])) _ _ _
    (c.as_str.ensures.value ∙ c.in_ok-line.ensures) c.only_candidate.ensures

pub returns-clause-one : goal.returns-clause-one
returns-clause-one c = one_candidate (trickled_as_line c.args.text.now)
