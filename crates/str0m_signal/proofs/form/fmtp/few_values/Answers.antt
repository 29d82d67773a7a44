use Rattle.str0m_signal.proofs.Common.{◌≡◌, ◌++◌, ◌∷◌, [], ◌∙◌, rules, sym, pair_texts}
use Rattle.str0m_signal.proofs.form.FmtpLaws.{fmtp_pair_shorter, pair_values_of, texts_push}
use Rattle.str0m_signal.proofs.form.fmtp.few_values.Goals as goal
use Rattle.str0m_signal.proofs.line.PairsOneByOne.{next_pair_of}
use Rattle.str0m_signal.proofs.line.PartLaws.{parts_regroup, part_with_front}
use Rattle.str0m_signal.specs.form.FmtpReading.{pair_read, pairs_read}

pub loop-key-smaller : goal.loop-key-smaller
loop-key-smaller c =
    fmtp_pair_shorter c.loop-key.rest.now (c.in-Some.key.now, c.in-Some.value.now) c.in-Some-next.more.now
    (sym (rw c.in-Some-next.is at c.in-Some.ensures))

pub loop-key-preserved : goal.loop-key-preserved
loop-key-preserved c =
    let read = rw c.in-Some-next.is at c.in-Some.ensures in
    let m = next_pair_of pair_read fmtp_pair_shorter (λ o. part_with_front (pair_texts c.loop-key.few.items) o
    ≡ pairs_read c.args.text.now)
    c.loop-key.rest.now _ (sym read) c.loop-key.invariant.1 in
    (search rules, (m.0, m.1, rw (c.push.ensures.items, texts_push) (parts_regroup _ _ _ ∙ m.2)))

pub returns-in_default-next : goal.returns-in_default-next
returns-in_default-next c =
    let read = rw c.in_default-next.is at c.in-Some.ensures in
    let whole = next_pair_of pair_read fmtp_pair_shorter (λ o. part_with_front (pair_texts c.loop-key.few.items) o
    ≡ pairs_read c.args.text.now)
    c.loop-key.rest.now _ (sym read) c.loop-key.invariant.1 in
    let values = rw (c.as_slice.ensures.value, c.push.ensures.items, texts_push) at c.in_ok-values.ensures in
    rw c.from.ensures (pair_values_of c.args.text.now
    (pair_texts c.loop-key.few.items ++ (c.in-Some.key.now, c.in-Some.value.now) ∷ []) c.in_ok-values.values.items whole values)
