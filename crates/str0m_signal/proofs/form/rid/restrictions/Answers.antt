use Rattle.str0m_signal.proofs.Common.{◌≡◌, ◌∙◌, rules, sym}
use Rattle.str0m_signal.proofs.form.RidLaws.{restriction_shorter}
use Rattle.str0m_signal.proofs.form.rid.restrictions.Goals as goal
use Rattle.str0m_signal.proofs.line.PairsOneByOne.{next_pair_of}
use Rattle.str0m_signal.proofs.line.PartLaws.{parts_regroup, part_with_front}
use Rattle.str0m_signal.specs.form.RidReading.{restriction_read, restrictions_read}

pub returns-in_default : goal.returns-in_default
returns-in_default c = next_pair_of restriction_read restriction_shorter
    (λ o. part_with_front c.loop-key.pairs.items o ≡ restrictions_read c.args.text.now) c.loop-key.rest.now _ (sym c.in_default.ensures)
    c.loop-key.invariant.1

pub loop-key-smaller : goal.loop-key-smaller
loop-key-smaller c =
    restriction_shorter c.loop-key.rest.now (c.in-Some.key.now, c.in-Some.value.now) c.in-Some-next.more.now
    (sym (rw c.in-Some-next.is at c.in-Some.ensures))

pub returns-in_default-next : goal.returns-in_default-next
returns-in_default-next c =
    let read = rw c.in_default-next.is at c.in-Some.ensures in
    rw (c.from.ensures, c.in_ok-keep_restriction.ensures)
    (next_pair_of restriction_read restriction_shorter (λ o. part_with_front c.loop-key.pairs.items o ≡ restrictions_read c.args.text.now)
    c.loop-key.rest.now _ (sym read) c.loop-key.invariant.1)

pub loop-key-preserved : goal.loop-key-preserved
loop-key-preserved c =
    let read = rw c.in-Some-next.is at c.in-Some.ensures in
    let m = next_pair_of restriction_read restriction_shorter (λ o. part_with_front c.loop-key.pairs.items o
    ≡ restrictions_read c.args.text.now)
    c.loop-key.rest.now _ (sym read) c.loop-key.invariant.1 in
    (search rules, (m.0, m.1, rw c.in_ok-keep_restriction.ensures (parts_regroup _ _ _ ∙ m.2)))
