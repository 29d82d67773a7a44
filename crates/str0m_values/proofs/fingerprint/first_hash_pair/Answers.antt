use Rattle.std.proofs.lemmas.Str.{IsCharBoundary-after_ascii}
use Rattle.str0m_values.proofs.Common.{lit<, refl, Some}
use Rattle.str0m_values.proofs.FingerprintPieces.{hash_pair_front}
use Rattle.str0m_values.proofs.fingerprint.first_hash_pair.Goals as goal

pub range_from-requires : goal.range_from-requires
range_from-requires c =
    let long = rw c.as_bytes-bytes.ensures.value at c.if-bytes-gt2.true in
    let is = rw c.as_bytes-bytes.ensures.value at c.if-bytes-eq58.true in
    λ _. IsCharBoundary-after_ascii c.args.text.now 2 c.utf8.text long (rw is (lit< tt))

pub returns-in-Some-clause-front : goal.returns-in-Some-clause-front
returns-in-Some-clause-front c =
    rw c.range_from.ensures.value
    (hash_pair_front c.args.text.now (Some c.in-Some.byte) (rw c.as_bytes-bytes.ensures.value at c.if-bytes-gt2.true)
    (rw c.as_bytes-bytes.ensures.value at c.if-bytes-eq58.true) (rw c.as_bytes-bytes.ensures.value at c.in-Some.ensures) refl)
