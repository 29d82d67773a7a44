use Rattle.str0m_sdp.proofs.Common.{◌≡◌, [], map, rules, tests, refl, take_all}
use Rattle.str0m_sdp.proofs.section.SectionRowsGatherLaws.{fmtp_gathered, feedback_gathered, row_other_gathered}
use Rattle.str0m_sdp.proofs.section.section_rows.TypeFacts.gather.Goals as goal
use Rattle.str0m_sdp.specs.section.Mappings.{codec_of_type}

pub loop-attr-init : goal.loop-attr-init
loop-attr-init c =
    let empty : c.in_ok-lines.lines.items ≡ [] = search (rules, tests) in
    (rw empty c.requires, refl)

pub returns-in_err-push-in-Fmtp-clause-in_m_line : goal.returns-in_err-push-in-Fmtp-clause-in_m_line
returns-in_err-push-in-Fmtp-clause-in_m_line c = c.loop-attr.invariant.1

pub loop-attr-preserved : goal.loop-attr-preserved
loop-attr-preserved c =
    let types = map codec_of_type c.args.types.now in
    let attrs = c.args.attrs.now in
    let words = c.loop-attr.self in
    let lines = c.loop-attr.lines.items in
    let i = c.loop-attr.attr-index in
    let attr = c.attr-item.result in
    let lt = c.loop-attr-test.true in
    let is = c.attr-item.is in
    let so_far = c.loop-attr.invariant.0 in
    elim c.match-attr.branch [
      | goal.in-Fmtp+in_ok-push-in-Fmtp w ↦
          let variant = rw (← w.as_slice-values.ensures) at w.in-Fmtp.is in
          rw (w.self-is, w.lines-is, w.in_ok-push-in-Fmtp.ensures.items, w.value.ensures.value) (
            fmtp_gathered types attrs words lines c.types_of-rtx_types.result c.types_of-red_types.result _ _ i w.in-Fmtp.pt
                w.as_slice-values.result attr
                lt is variant w.value.ensures.range c.types_of-rtx_types.ensures.rows c.types_of-red_types.ensures.rows
                (w.note_companion_line.ensures.whole so_far.rtx_rows) (w.note_companion_line-in-Fmtp.ensures.whole so_far.red_rows)
                (w.note_companion_line.ensures.noted so_far.rtx_rows) (w.note_companion_line-in-Fmtp.ensures.noted so_far.red_rows)
                so_far,
            c.loop-attr.invariant.1,
          )
      | goal.in-RtcpFb w ↦
          rw (w.self-is, w.lines-is, w.note_feedback.ensures.noted, w.as_str.ensures.value) (
            feedback_gathered types attrs words lines i w.in-RtcpFb.pt w.in-RtcpFb.value attr lt is w.in-RtcpFb.is
                w.note_feedback.ensures.within so_far,
            c.loop-attr.invariant.1,
          )
      | goal.in_default w ↦
          rw (w.self-is, w.lines-is) (
            row_other_gathered types attrs words lines i attr lt is w.in_default.not-Fmtp w.in_default.not-RtcpFb so_far,
            c.loop-attr.invariant.1,
          )
    ]

pub returns-clause-words : goal.returns-clause-words
returns-clause-words c =
    rw (← take_all c.loop-attr.attr-index c.args.attrs.now c.loop-attr-test.false) c.loop-attr.invariant.0

pub returns-clause-in_m_line : goal.returns-clause-in_m_line
returns-clause-in_m_line c = c.loop-attr.invariant.1
