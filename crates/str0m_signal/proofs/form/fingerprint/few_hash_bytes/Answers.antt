use Rattle.str0m_signal.proofs.Common.{rules}
use Rattle.str0m_signal.proofs.form.FingerprintLaws.{hash_more, hash_more_shorter}
use Rattle.str0m_signal.proofs.form.fingerprint.few_hash_bytes.Goals as goal

pub loop-byte-smaller : goal.loop-byte-smaller
loop-byte-smaller c = hash_more_shorter c.loop-byte.rest.now c.in-Some.byte c.in-Some.more.now c.in-Some.ensures

pub loop-byte-preserved : goal.loop-byte-preserved
loop-byte-preserved c = (
  search rules,
  rw c.push.ensures.items (hash_more c.args.text.now c.loop-byte.few.items c.loop-byte.rest.now c.in-Some.byte c.in-Some.more.now
      c.in-Some.ensures c.loop-byte.invariant.1),
)
