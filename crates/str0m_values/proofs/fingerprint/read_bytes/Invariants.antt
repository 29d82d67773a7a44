use Rattle.std.proofs.Common.{vec_len, vec_capacity}
use Rattle.std.specs.Prelude.{◌/◌}
use Rattle.str0m_values.proofs.Common.{◌+◌, ◌*◌, ◌<◌, ◌≤◌, length}
use Rattle.str0m_values.proofs.FingerprintPieces.{AreHashBytesBefore}
use Rattle.str0m_values.proofs.fingerprint.read_bytes.Given as goal
use denote.Shadow.{shadow}
use denote.Text.{Utf8}

abbrev pub invariant-loop-byte : goal.invariant-loop-byte
invariant-loop-byte l = shadow (Utf8 l.left) × AreHashBytesBefore l.text l.left l.bytes.items ×
    (3 * vec_len l.bytes + length l.left ≤ length l.text) × (length l.text / 3 < vec_capacity l.bytes)

abbrev pub decreases-loop-byte : goal.decreases-loop-byte
decreases-loop-byte l = length l.left
