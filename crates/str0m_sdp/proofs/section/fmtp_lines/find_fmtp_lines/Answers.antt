use Rattle.str0m_sdp.proofs.Common.{sym, ◌∙◌}
use Rattle.str0m_sdp.proofs.section.FmtpLineLaws.{own_fmtp_line_found, other_fmtp_line_not_found}
use Rattle.str0m_sdp.proofs.section.fmtp_lines.find_fmtp_lines.Goals as goal

pub loop-number-preserved : goal.loop-number-preserved
loop-number-preserved c =
    let lines = c.args.lines.now in
    let found = c.loop-number.found.items in
    let i = c.loop-number.number-index in
    let item = c.loop-number-item.result in
    let lt = c.loop-number-test.true in
    let is = c.loop-number-item.is in
    elim c.if-is_line_of_type.branch [
      | goal.then-is_line_of_type+in_ok-push w ↦
          rw (w.found-is, w.in_ok-push.ensures.items)
          (own_fmtp_line_found lines found i c.args.pt item lt is (sym c.is_line_of_type.ensures ∙ w.if-is_line_of_type.true)
          c.loop-number.invariant)
      | goal.else-is_line_of_type w ↦
          rw w.found-is (other_fmtp_line_not_found lines found i c.args.pt item lt is
          (sym c.is_line_of_type.ensures ∙ w.if-is_line_of_type.false) c.loop-number.invariant)
    ]
