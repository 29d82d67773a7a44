use Rattle.str0m_signal.proofs.Common.{IfOk-weaker}
use Rattle.str0m_signal.proofs.back.WritableLaws.{back_beside, writable_lost_beside}
use Rattle.str0m_signal.proofs.back.writable.session_comes_back.Goals as goal

pub returns : goal.returns
returns c =
    elim c.match-branch-2.branch [
      | goal.in-Some w ↦
          let only = rw (c.as_slice.ensures, w.in-Some.is) at c.in_ok-session_back.ensures in
          rw w.result-is (IfOk-weaker w.bandwidth_comes_back.result _ _ (λ answer. back_beside _ only) w.bandwidth_comes_back.ensures)
      | goal.in-None w ↦
          let none = rw (c.as_slice.ensures, w.in-None.is) at c.in_ok-session_back.ensures in
          rw w.result-is (writable_lost_beside none)
    ]
