use Rattle.bench_calls.proofs.AnswerLaws.{as_many_sections_answered}
use Rattle.bench_calls.proofs.answers.sections_answered_by.Goals as goal
use Rattle.bench_calls.specs.Answers.{HasAnswered}
use Rattle.std.proofs.Common.{◌≡◌, ℕ, length, subst, sym}

pub returns : goal.returns
returns c =
    let long : c.len.result ≡ length c.in_ok-answer.answer.sdp.media_lines = cc (c.len.ensures, c.deref.ensures) in
    subst (λ (n : ℕ). HasAnswered c.args.offer.now n) (sym long)
    (as_many_sections_answered c.args.offer.now c.accept_offer.new.self.remote c.in_ok-answer.answer.sdp c.in_ok-answer.ensures.read
    c.in_ok-answer.ensures.shape)
