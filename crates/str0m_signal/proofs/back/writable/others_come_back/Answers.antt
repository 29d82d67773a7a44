use Rattle.str0m_signal.proofs.Common.{sym, ◌∙◌, true≢false}
use Rattle.str0m_signal.proofs.back.WritableLaws.{writable_others_more, writable_one_section_lost, all_back}
use Rattle.str0m_signal.proofs.back.writable.others_come_back.Goals as goal

pub returns-then-not-branch : goal.returns-then-not-branch
returns-then-not-branch c =
    writable_one_section_lost c.args.sections.now c.args.own c.loop-i.i c.index-sections-i.result c.loop-i-test.true c.index-sections-i.is
    c.if-i-own.true
    (λ back. true≢false (sym (c.in_ok-comes_back.ensures.1 back) ∙ c.if-not-branch.true))

pub loop-i-preserved : goal.loop-i-preserved
loop-i-preserved c =
    let more = writable_others_more c.args.sections.now c.args.own c.loop-i.i c.index-sections-i.result c.loop-i-test.true
    c.index-sections-i.is in
    elim c.else-i-own.branch [
      | goal.else-i-own-via-then-i-own+in_ok-comes_back+else-not-branch w ↦ more
          (λ other. w.in_ok-comes_back.ensures.0 w.if-not-branch.false) c.loop-i.invariant
      | goal.else-i-own-via-else-i-own w ↦ more (λ other. absurd (other w.if-i-own.false)) c.loop-i.invariant
    ]

pub returns : goal.returns
returns c = all_back c.args.sections.now c.args.own c.loop-i.i c.loop-i-test.false c.loop-i.invariant
