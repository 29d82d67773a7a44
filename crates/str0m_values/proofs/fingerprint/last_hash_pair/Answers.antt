use Rattle.str0m_values.proofs.FingerprintPieces.{hash_pair_last}
use Rattle.str0m_values.proofs.fingerprint.last_hash_pair.Goals as goal

pub returns-then-bytes-eq2-clause-front : goal.returns-then-bytes-eq2-clause-front
returns-then-bytes-eq2-clause-front c = hash_pair_last c.args.text.now c.pair_byte.result
    (rw c.as_bytes-bytes.ensures.value at c.if-bytes-eq2.true)
    (rw c.as_bytes-bytes.ensures.value at c.pair_byte.ensures)
