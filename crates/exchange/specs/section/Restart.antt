-- When a description restarts ICE (RFC 8839, section 4.4.3.1.1).
use Rattle.exchange.specs.Prelude.{IceCreds, Sdp}
use Rattle.exchange.specs.answer.InForce.{creds_at}
use Rattle.std.specs.Prelude.{◌≡◌, ◌≢◌, ℕ, Some}

-- the section there had credentials, and it has others now
abbrev pub IsRestartedAt : Sdp → Sdp → ℕ → Type 0
IsRestartedAt before now at = (old : IceCreds) × (new : IceCreds) × (creds_at before at ≡ Some old) × (creds_at now at ≡ Some new) × (old ≢ new)

abbrev pub IsIceRestart : Sdp → Sdp → Type 0
IsIceRestart before now = (at : ℕ) × IsRestartedAt before now at
