use Rattle.c_parts.proofs.SideListed.{listed_candidates_more, listed_candidates_refused}
use Rattle.c_parts.proofs.side.side_candidates_of.Goals as goal
use Rattle.c_parts.specs.Side.{RefusesSideCandidates, listed_texts}
use Rattle.exchange.specs.section.Trickled.{IsTrickled}
use Rattle.std.proofs.Common.{◌+◌, List, arith, subst, sym, take}
use Rattle.std.proofs.lemmas.Grind.{common_steps}
use Rattle.std.specs.List.{AllZip}
use Rattle.str0m_values.specs.declared.candidate.Candidate.{Candidate}

pub returns-in_err-candidate-clause-refused : goal.returns-in_err-candidate-clause-refused
returns-in_err-candidate-clause-refused c =
    let told : RefusesSideCandidates (listed_texts c.args.lines.now) c.in_err-candidate.field-0.0 =
    listed_candidates_refused c.args.lines.now c.loop-line.line-index _ c.loop-line-test.true c.in_err-candidate.field-0.0
    c.in_err-candidate.ensures.refused in
    grind (arith, common_steps, told)

pub loop-line-preserved : goal.loop-line-preserved
loop-line-preserved c =
    subst (λ (candidates : List Candidate). AllZip IsTrickled (listed_texts (take (c.loop-line.line-index + 1) c.args.lines.now))
    candidates) (sym c.in_ok-push.ensures.ok)
    (listed_candidates_more c.args.lines.now c.loop-line.line-index _ c.loop-line-test.true c.loop-line.candidates
    c.in_ok-candidate.candidate
    c.loop-line.invariant
    c.in_ok-candidate.ensures.read)
