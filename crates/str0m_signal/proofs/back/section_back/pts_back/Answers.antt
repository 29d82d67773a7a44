use Rattle.str0m_signal.proofs.Common.{sym, ◌∙◌, true≢false, m_line}
use Rattle.str0m_signal.proofs.back.WritableLaws.{head_lost, same_head, other_head}
use Rattle.str0m_signal.proofs.back.section_back.pts_back.Goals as goal
use Rattle.str0m_signal.specs.back.Writable.{IsReadBackLine}
use Rattle.str0m_signal.specs.line.Heads.{media_head}
use Rattle.str0m_signal.specs.session.Section.{IsHead}

pub returns-in-Some : goal.returns-in-Some
returns-in-Some c =
    let m = c.args.section.now in
    let only = rw (c.as_str.ensures.value, c.in_ok-text.ensures, c.in-Some.is) at c.in_ok-head.ensures in
    same_head m (IsReadBackLine IsHead (m_line m)) (media_head c.in-Some.head) only (c.head_says_same.ensures.0 c.if-head_says_same.true)

pub returns : goal.returns
returns c =
    let m = c.args.section.now in
    elim c.in_default.branch [
      | goal.in_default-via-in-Some+else-head_says_same w ↦
          let only = rw (c.as_str.ensures.value, c.in_ok-text.ensures, w.in-Some.is) at c.in_ok-head.ensures in
          other_head m (IsReadBackLine IsHead (m_line m)) (media_head w.in-Some.head) only
          (λ same. true≢false (sym (w.head_says_same.ensures.1 same) ∙ w.if-head_says_same.false))
      | goal.in_default-via-in_default w ↦
          let none = rw (c.as_str.ensures.value, c.in_ok-text.ensures, w.in_default.is) at c.in_ok-head.ensures in
          head_lost m (IsReadBackLine IsHead (m_line m)) none
    ]
