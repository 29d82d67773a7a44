use Rattle.str0m_signal.proofs.back.WritableLaws.{back_same, writable_lost_same}
use Rattle.str0m_signal.proofs.back.section_back.bandwidth_comes_back.Goals as goal

pub returns-in-Some-2 : goal.returns-in-Some-2
returns-in-Some-2 c =
    let only = rw (c.as_str.ensures.value, c.in_ok-text.ensures.ok, c.in-Some-2.is) at c.in_ok-read.ensures in
    rw c.in-Some.is (back_same c.in-Some-2.read c.in-Some.bw only c.is_same_bandwidth.ensures)

pub returns : goal.returns
returns c =
    let none = rw (c.as_str.ensures.value, c.in_ok-text.ensures.ok, c.in-None.is) at c.in_ok-read.ensures in
    rw c.in-Some.is (writable_lost_same c.in-Some.bw none)
