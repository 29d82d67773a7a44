use Rattle.str0m_signal.proofs.Common.{◌≡◌, ◌∙◌, rules, sym, pair_texts}
use Rattle.str0m_signal.proofs.form.FmtpLaws.{fmtp_pair_shorter, texts_push}
use Rattle.str0m_signal.proofs.line.PairsOneByOne.{next_pair_of}
use Rattle.str0m_signal.proofs.line.PartLaws.{parts_regroup, part_with_front}
use Rattle.str0m_signal.proofs.line.pairs.pairs.Goals as goal
use Rattle.str0m_signal.specs.form.FmtpReading.{pair_read, pairs_read}

pub returns-in_default : goal.returns-in_default
returns-in_default c = next_pair_of pair_read fmtp_pair_shorter (λ o. part_with_front (pair_texts c.loop-key.pairs.items) o
    ≡ pairs_read c.args.text.now)
    c.loop-key.rest.now _ (sym c.in_default.ensures) c.loop-key.invariant.1

pub loop-key-smaller : goal.loop-key-smaller
loop-key-smaller c =
    fmtp_pair_shorter c.loop-key.rest.now (c.in-Some.key.now, c.in-Some.value.now) c.in-Some-next.more.now
    (sym (rw c.in-Some-next.is at c.in-Some.ensures))

pub returns-in_default-next : goal.returns-in_default-next
returns-in_default-next c =
    let read = rw c.in_default-next.is at c.in-Some.ensures in
    rw (c.in_ok-push.ensures.items, texts_push)
    (next_pair_of pair_read fmtp_pair_shorter (λ o. part_with_front (pair_texts c.loop-key.pairs.items) o ≡ pairs_read c.args.text.now)
    c.loop-key.rest.now _ (sym read) c.loop-key.invariant.1)

pub loop-key-preserved : goal.loop-key-preserved
loop-key-preserved c =
    let read = rw c.in-Some-next.is at c.in-Some.ensures in
    let m = next_pair_of pair_read fmtp_pair_shorter (λ o. part_with_front (pair_texts c.loop-key.pairs.items) o
    ≡ pairs_read c.args.text.now)
    c.loop-key.rest.now _ (sym read) c.loop-key.invariant.1 in
    (search rules, (m.0, m.1, rw (c.in_ok-push.ensures.items, texts_push) (parts_regroup _ _ _ ∙ m.2)))
