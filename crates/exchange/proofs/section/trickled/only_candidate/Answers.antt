use Rattle.exchange.proofs.Common.{IsCandidateLine, FirstLine}
use Rattle.exchange.proofs.section.TrickledLaws.{trickled_no_candidate_so, trickled_only_candidate_so}
use Rattle.exchange.proofs.section.trickled.only_candidate.Goals as goal

pub returns-in-Ok : goal.returns-in-Ok
returns-in-Ok c = trickled_only_candidate_so (FirstLine IsCandidateLine c.args.line.now) _ _ _ c.in-Ok.ensures.read c.in-Ok.ensures.one
    c.trickled_alone.ensures

pub returns-in-Err : goal.returns-in-Err
returns-in-Err c = trickled_no_candidate_so (FirstLine IsCandidateLine c.args.line.now) _ c.in-Err.ensures.read
