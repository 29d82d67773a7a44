use Rattle.str0m_signal.proofs.Common.{length, refl, slice_get_read, IfOk-weaker}
use Rattle.str0m_signal.proofs.back.WritableLaws.{writable_with}
use Rattle.str0m_signal.proofs.back.writable.surroundings_come_back.Goals as goal

pub returns : goal.returns
returns c =
    let sdp = c.args.sdp.now in
    let found = rw c.as_slice-sections.ensures at c.in-Some.ensures.lookup in
    let at = slice_get_read sdp.media_lines (length sdp.media_lines) c.args.section c.in-Some.own.now refl found.3.0 found.1 in
    let session = c.in_ok-session_comes_back.ensures.0 c.if-not-branch.false in
    let frame = c.in_ok-frame_comes_back.ensures.0 c.if-not-branch-2.false in
    IfOk-weaker c.others_come_back.result _ _ (λ answer. writable_with sdp c.args.section c.in-Some.own.now at session frame)
    (rw c.as_slice-sections.ensures at c.others_come_back.ensures)
