use Rattle.str0m_values.proofs.Common.{rules, arith}
use Rattle.str0m_values.proofs.FingerprintPieces.{hash_bytes_more, hash_bytes_all, hash_rest_read}
use Rattle.str0m_values.proofs.fingerprint.read_bytes.Goals as goal

pub loop-byte-preserved : goal.loop-byte-preserved
loop-byte-preserved c = (
  search rules,
  rw c.push_reserved.ensures.items
      (hash_bytes_more c.args.text.now c.loop-byte.left.now c.in-Some.rest.now c.loop-byte.bytes.items c.in-Some.byte
      c.loop-byte.invariant.1 c.in-Some.ensures.front),
  omega (arith, c.push_reserved.ensures.len, c.in-Some.ensures.three, c.loop-byte.invariant.2),
  rw c.push_reserved.ensures.capacity c.loop-byte.invariant.3,
)

pub returns-in-Some-last_hash_pair : goal.returns-in-Some-last_hash_pair
returns-in-Some-last_hash_pair c =
    rw c.push_reserved-in-Some-last_hash_pair.ensures.items
    (hash_bytes_all c.args.text.now c.loop-byte.left.now c.loop-byte.bytes.items c.in-Some-last_hash_pair.byte c.loop-byte.invariant.1
    c.in-Some-last_hash_pair.ensures.front)

pub returns-in-None : goal.returns-in-None
returns-in-None c = hash_rest_read c.args.text.now c.loop-byte.left.now c.loop-byte.bytes.items c.read_hash_pieces.result
    c.loop-byte.invariant.1 c.read_hash_pieces.ensures
