use Rattle.std.proofs.lemmas.Str.{IsCharBoundary-after_ascii}
use Rattle.str0m_signal.proofs.Common.{lit<, sym}
use Rattle.str0m_signal.proofs.form.FingerprintLaws.{hash_pair_cut}
use Rattle.str0m_signal.proofs.form.fingerprint.hash_pair_before.Goals as goal

pub range_from-requires : goal.range_from-requires
range_from-requires c =
    let long = rw c.as_bytes-bytes.ensures.value at c.if-bytes-gt2.true in
    let is = rw c.as_bytes-bytes.ensures.value at c.if-bytes-eq58.true in
    λ _. IsCharBoundary-after_ascii c.args.text.now 2 c.utf8.text long (rw is (lit< tt))

pub returns-in_ok-byte : goal.returns-in_ok-byte
returns-in_ok-byte c =
    rw c.range_from.ensures.value
    (hash_pair_cut c.args.text.now c.in_ok-byte.byte (rw c.as_bytes-bytes.ensures.value at c.if-bytes-gt2.true)
    (rw c.as_bytes-bytes.ensures.value at c.if-bytes-eq58.true) (sym (rw c.as_bytes-bytes.ensures.value at c.in_ok-byte.ensures)))
