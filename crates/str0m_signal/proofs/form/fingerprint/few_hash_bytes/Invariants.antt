use Rattle.str0m_signal.proofs.Common.{◌≡◌, length, Utf8, shadow}
use Rattle.str0m_signal.proofs.form.fingerprint.few_hash_bytes.Given as goal
use Rattle.str0m_signal.proofs.line.PartLaws.{part_with_front}
use Rattle.str0m_signal.specs.form.Fingerprint.{hash_read}

-- the bytes so far and those of the rest are those of the text
abbrev pub invariant-loop-byte : goal.invariant-loop-byte
invariant-loop-byte l = shadow (Utf8 l.rest) × (part_with_front l.few.items (hash_read l.rest) ≡ hash_read l.fn.text)

abbrev pub decreases-loop-byte : goal.decreases-loop-byte
decreases-loop-byte l = length l.rest
