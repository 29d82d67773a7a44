use Rattle.str0m_values.proofs.Common.{◌≡◌, ℕ, List, ◌++◌, length}
use Rattle.str0m_values.proofs.FingerprintPieces.{AreHashBytesBefore}
use Rattle.str0m_values.proofs.fingerprint.read_hash_pieces.Given as goal
use denote.Shadow.{shadow}
use denote.Text.{Utf8}

abbrev pub invariant-loop-byte : goal.invariant-loop-byte
invariant-loop-byte l =
    shadow (Utf8 l.left) ×
    ((more : List ℕ) × (l.bytes.items ≡ l.initial.bytes.items ++ more) × AreHashBytesBefore l.text l.left more)

abbrev pub decreases-loop-byte : goal.decreases-loop-byte
decreases-loop-byte l = length l.left
