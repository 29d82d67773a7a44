use Rattle.str0m_sdp.proofs.Common.{Bool, sym, ap, ◌∙◌, true≢false, drop_all}
use Rattle.str0m_sdp.proofs.section.AlikeLaws.{alike_shown_from, alike_one_shown_ends, alike_first_shown_differ, alike_firsts_agree}
use Rattle.str0m_sdp.proofs.section.AlikeLaws.{alike_both_shown_end}
use Rattle.str0m_sdp.proofs.section.AlikeLaws.{alike_first_passed}
use Rattle.str0m_sdp.proofs.section.alike.are_alike_shown.Goals as goal
use Rattle.str0m_sdp.specs.section.Alike.{alike_shown}

pub returns-in_default : goal.returns-in_default
returns-in_default c =
    let at = alike_shown_from c.args.values.now c.loop-value.value-index c.value-item.result _ c.loop-value-test.true c.value-item.is
    (sym c.if-is_fmtp_shown.ensures) in
    alike_one_shown_ends _ _ _ _ c.loop-value.invariant at c.in_default.ensures

pub returns-then-not-is_alike_param : goal.returns-then-not-is_alike_param
returns-then-not-is_alike_param c =
    let at = alike_shown_from c.args.values.now c.loop-value.value-index c.value-item.result _ c.loop-value-test.true c.value-item.is
    (sym c.if-is_fmtp_shown.ensures) in
    alike_first_shown_differ _ _ _ _ _ _ c.loop-value.invariant at c.in-Some.ensures
    (λ same. true≢false (sym (c.is_alike_param.ensures.1 (same ∙ sym c.alike_as_read.ensures)) ∙ c.if-not-is_alike_param.true))

pub loop-value-preserved : goal.loop-value-preserved
loop-value-preserved c =
    let at = λ (b : Bool). alike_shown_from c.args.values.now c.loop-value.value-index c.value-item.result b c.loop-value-test.true
    c.value-item.is in
    elim c.if-is_fmtp_shown.branch [
      | goal.then-is_fmtp_shown+in-Some+else-not-is_alike_param w ↦
          let same = w.is_alike_param.ensures.0 w.if-not-is_alike_param.false ∙ w.alike_as_read.ensures in
          rw w.left-is (alike_firsts_agree _ _ _ _ _ _ c.loop-value.invariant (at _ (sym w.if-is_fmtp_shown.ensures)) w.in-Some.ensures
          same)
      | goal.else-is_fmtp_shown w ↦ rw w.left-is (alike_first_passed _ _ _ c.loop-value.invariant (at _ (sym w.if-is_fmtp_shown.ensures)))
    ]

pub returns : goal.returns
returns c = alike_both_shown_end _ _ _ _ _ _ c.loop-value.invariant (ap alike_shown (drop_all _ _ c.loop-value-test.false))
    c.next_alike_shown-2.ensures
    c.is_none.ensures
