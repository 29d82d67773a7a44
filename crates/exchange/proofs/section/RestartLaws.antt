-- Where no section restarts ICE.
use Rattle.exchange.proofs.Common.{◌≡◌, ℕ, ◌<◌, ◌≤◌, Option, None, length, ap, inl, inr, arith, cases_lt, slice_get_past, MediaLine, Sdp}
use Rattle.exchange.proofs.Common.{creds, media_pwd, media_ufrag, session_pwd, session_ufrag}
use Rattle.exchange.specs.answer.InForce.{creds_at, in_force_of}
use Rattle.exchange.specs.section.Restart.{IsIceRestart, IsRestartedAt}

-- after the last section no credentials are in force
no_restart_creds : (sdp : Sdp) (at : ℕ) → length sdp.media_lines ≤ at → creds_at sdp at ≡ None
no_restart_creds sdp at past =
    ap (λ (m : Option MediaLine). creds (in_force_of media_ufrag session_ufrag sdp.session.attrs m)
    (in_force_of media_pwd session_pwd sdp.session.attrs m))
    (slice_get_past sdp.media_lines at past)

pub no_restart : (before now : Sdp) (n : ℕ) → length before.media_lines ≤ n → ((k : ℕ) → k < n → IsRestartedAt before now k → ⊥)
    → IsIceRestart before now → ⊥
no_restart before now n past none (at, restarted) =
    elim (cases_lt at n) [
      | inl lt ↦ none at lt restarted
      | inr ge ↦
          let behind : length before.media_lines ≤ at = omega arith in
          let gone = no_restart_creds before at behind in
          let had = restarted.2 in
          cc
    ]
