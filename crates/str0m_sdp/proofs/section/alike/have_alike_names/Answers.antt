use Rattle.str0m_sdp.proofs.Common.{sym, ap, refl, subst, ◌∙◌, ◌<◌, ◌≤◌, ℕ, true≢false, drop_all}
use Rattle.str0m_sdp.proofs.section.AlikeLaws.{alike_ids_from, alike_first_shown_differ, alike_firsts_agree, alike_other_length}
use Rattle.str0m_sdp.proofs.section.alike.have_alike_names.Goals as goal
use Rattle.str0m_sdp.specs.section.Alike.{layer_ids}

pub returns-then-layers-others : goal.returns-then-layers-others
returns-then-layers-others c = (
  λ h. absurd (true≢false (sym h)),
  λ same. absurd (alike_other_length c.args.layers.now c.args.others.now c.if-layers-others.true same),
)

pub returns-then-not-has_alike_name : goal.returns-then-not-has_alike_name
returns-then-not-has_alike_name c =
    let at = alike_ids_from c.args.layers.now c.loop-i.i c.index-layers-i.result c.loop-i-test.true c.index-layers-i.is in
    let inside = subst (λ (n : ℕ). c.loop-i.i < n) c.if-layers-others.false c.loop-i-test.true in
    let other = alike_ids_from c.args.others.now c.loop-i.i c.index-others-i.result inside c.index-others-i.is in
    alike_first_shown_differ _ _ _ _ _ _ c.loop-i.invariant at other
    (λ same. true≢false (sym (c.has_alike_name.ensures.1 (sym same)) ∙ c.if-not-has_alike_name.true))

pub loop-i-preserved : goal.loop-i-preserved
loop-i-preserved c =
    let at = alike_ids_from c.args.layers.now c.loop-i.i c.index-layers-i.result c.loop-i-test.true c.index-layers-i.is in
    let inside = subst (λ (n : ℕ). c.loop-i.i < n) c.if-layers-others.false c.loop-i-test.true in
    let other = alike_ids_from c.args.others.now c.loop-i.i c.index-others-i.result inside c.index-others-i.is in
    alike_firsts_agree _ _ _ _ _ _ c.loop-i.invariant at other (sym (c.has_alike_name.ensures.0 c.if-not-has_alike_name.false))

pub returns : goal.returns
returns c =
    let over = subst (λ (n : ℕ). n ≤ c.loop-i.i) c.if-layers-others.false c.loop-i-test.false in
    let ends = ap layer_ids (drop_all c.loop-i.i c.args.layers.now c.loop-i-test.false)
    ∙ sym (ap layer_ids (drop_all c.loop-i.i c.args.others.now over)) in
    (λ h. c.loop-i.invariant.0 ends, λ same. refl)
