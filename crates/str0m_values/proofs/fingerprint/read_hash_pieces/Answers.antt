use Rattle.str0m_values.proofs.Common.{rules, ◌∷◌, [], ◌++◌, append_assoc}
use Rattle.str0m_values.proofs.FingerprintPieces.{hash_bytes_more, hash_bytes_all, hash_bytes_bad}
use Rattle.str0m_values.proofs.fingerprint.read_hash_pieces.Goals as goal
use Rattle.str0m_values.specs.CutsParts.{part_text_of}

pub returns-in_default : goal.returns-in_default
returns-in_default c =
    hash_bytes_bad c.args.text.now c.loop-byte.left.now c.loop-byte.invariant.1.0 (part_text_of c.first_hash_byte-byte.result.1)
    c.loop-byte.invariant.1.2 (rw c.in_default.is at c.first_hash_byte-byte.ensures.front)

pub loop-byte-preserved : goal.loop-byte-preserved
loop-byte-preserved c = (
  search rules,
  (
    c.loop-byte.invariant.1.0 ++ c.in-Some.byte ∷ [],
    rw (c.in_ok-push.ensures.items, c.loop-byte.invariant.1.1)
        (append_assoc c.args.bytes.items c.loop-byte.invariant.1.0 (c.in-Some.byte ∷ [])),
    hash_bytes_more c.args.text.now c.loop-byte.left.now c.in-Some-rest.rest.now c.loop-byte.invariant.1.0 c.in-Some.byte
        c.loop-byte.invariant.1.2 (rw (c.in-Some.is, c.in-Some-rest.is) at c.first_hash_byte-byte.ensures.front),
  ),
)

pub returns-in-None : goal.returns-in-None
returns-in-None c = (
  c.loop-byte.invariant.1.0 ++ c.in-Some.byte ∷ [],
  rw (c.in_ok-push.ensures.items, c.loop-byte.invariant.1.1)
      (append_assoc c.args.bytes.items c.loop-byte.invariant.1.0 (c.in-Some.byte ∷ [])),
  hash_bytes_all c.args.text.now c.loop-byte.left.now c.loop-byte.invariant.1.0 c.in-Some.byte c.loop-byte.invariant.1.2
      (rw (c.in-Some.is, c.in-None.is) at c.first_hash_byte-byte.ensures.front),
)
