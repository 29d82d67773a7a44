use Rattle.str0m_signal.proofs.Common.{◌≡◌, ◌∙◌, rules, sym, is_some}
use Rattle.str0m_signal.proofs.form.RidLaws.{restriction_shorter}
use Rattle.str0m_signal.proofs.form.rid.restriction_count.Goals as goal
use Rattle.str0m_signal.proofs.line.PairsOneByOne.{next_pair_of}
use Rattle.str0m_signal.proofs.line.PartLaws.{part_some_bound}
use Rattle.str0m_signal.specs.form.RidReading.{restriction_read, restrictions_read}

pub returns-in_default : goal.returns-in_default
returns-in_default c = next_pair_of restriction_read restriction_shorter (λ o. is_some o ≡ is_some (restrictions_read c.args.text.now))
    c.loop-next.rest.now _ (sym c.in_default.ensures) c.loop-next.invariant.1

pub loop-next-smaller : goal.loop-next-smaller
loop-next-smaller c =
    restriction_shorter c.loop-next.rest.now (c.in-Some.field-0-0.now, c.in-Some.field-0-1.now) c.in-Some-next.more.now
    (sym (rw c.in-Some-next.is at c.in-Some.ensures))

pub returns-in_default-next : goal.returns-in_default-next
returns-in_default-next c =
    let read = rw c.in_default-next.is at c.in-Some.ensures in
    next_pair_of restriction_read restriction_shorter (λ o. is_some o ≡ is_some (restrictions_read c.args.text.now)) c.loop-next.rest.now _
    (sym read) c.loop-next.invariant.1

pub loop-next-preserved : goal.loop-next-preserved
loop-next-preserved c =
    let read = rw c.in-Some-next.is at c.in-Some.ensures in
    let m = next_pair_of restriction_read restriction_shorter (λ o. is_some o ≡ is_some (restrictions_read c.args.text.now))
    c.loop-next.rest.now
    _ (sym read) c.loop-next.invariant.1 in
    (search rules, (m.0, m.1, sym (part_some_bound _ _) ∙ m.2))
