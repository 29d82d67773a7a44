use Rattle.exchange.proofs.Common.{arith, ◌≤◌, ◌∙◌, length, sym, take, true≢false, take_all, All-more}
use Rattle.exchange.proofs.offer.FitsLaws.{first_rule_broken, rules_kept}
use Rattle.exchange.proofs.offer.fits_section.broken_rule.Goals as goal
use Rattle.exchange.specs.declared.offer.rule.Rule.TheVariants.{Sections}
use Rattle.exchange.specs.offer.Fits.{KeepsRule}

pub returns-then-not-branch : goal.returns-then-not-branch
returns-then-not-branch c =
    first_rule_broken c.args.ours.now.params.items c.args.answer.now c.args.offered.now c.args.answered.now
    c.rules-rule-items.result.now c.rules-rule-items.ensures c.loop-rule.rule-index
    c.loop-rule-test.true c.loop-rule.invariant (λ kept. true≢false (sym (c.in_ok-fit_keeps_rule.ensures.1 kept) ∙ c.if-not-branch.true))

pub loop-rule-preserved : goal.loop-rule-preserved
loop-rule-preserved c =
    All-more (KeepsRule c.args.ours.now.params.items c.args.answer.now c.args.offered.now c.args.answered.now) c.rules-rule-items.result.now
    c.loop-rule.rule-index Sections
    c.loop-rule-test.true c.loop-rule.invariant (c.in_ok-fit_keeps_rule.ensures.0 c.if-not-branch.false)

pub returns : goal.returns
returns c =
    let rules = c.rules-rule-items.result.now in
    let past : length rules ≤ c.loop-rule.rule-index = omega arith in
    rules_kept c.args.ours.now.params.items c.args.answer.now c.args.offered.now c.args.answered.now
    (take c.loop-rule.rule-index rules)
    (take_all c.loop-rule.rule-index rules past ∙ c.rules-rule-items.ensures) c.loop-rule.invariant
