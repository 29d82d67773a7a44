use Rattle.str0m_signal.proofs.Common.{pair_texts}
use Rattle.str0m_signal.proofs.form.FmtpLaws.{pair_values_of}
use Rattle.str0m_signal.proofs.form.fmtp.many_values.Goals as goal

pub returns-in_ok-values-in-Some : goal.returns-in_ok-values-in-Some
returns-in_ok-values-in-Some c =
    let read = rw c.in-Some.is at c.in_ok-pairs.ensures in
    let values = rw c.as_slice.ensures.value at c.in_ok-values-in-Some.ensures in
    rw c.from.ensures (pair_values_of c.args.text.now (pair_texts c.in-Some.pairs.items) c.in_ok-values-in-Some.values.items read values)
