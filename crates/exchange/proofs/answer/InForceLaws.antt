-- The preferred fingerprint, of a section's own or of the session's.
use Rattle.exchange.proofs.Common.{List, [], ◌∷◌, Option, Some, None, Result, Ok, Err, IfOk, arith, IsPreferred, first_filled_fingerprints}
use Rattle.exchange.proofs.Common.{Fingerprint}

-- that of a section which has any
pub of_section : (own session : List Fingerprint) (print : Fingerprint) → IsPreferred own (Some print)
    → IsPreferred (first_filled_fingerprints (own ∷ session ∷ [])) (Some print)
of_section [] session print h = absurd (omega (arith, h.1.0))
of_section (first ∷ more) session print h = h

-- that of the session, where the section has none
none_own : (own session : List Fingerprint) (found : Option Fingerprint) → IsPreferred own None → IsPreferred session found
    → IsPreferred (first_filled_fingerprints (own ∷ session ∷ [])) found
none_own [] [] found none h = h
none_own [] (first ∷ more) found none h = h
none_own (first ∷ more) session found none h = absurd (cc none)

pub of_session : {E : Type 0} (own session : List Fingerprint) (r : Result (Option Fingerprint) E) → IsPreferred own None
    → IfOk r (IsPreferred session) → IfOk r (IsPreferred (first_filled_fingerprints (own ∷ session ∷ [])))
of_session own session (Ok found) none h = none_own own session found none h
of_session own session (Err e) none h = tt
