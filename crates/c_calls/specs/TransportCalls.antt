-- What calls find of the transport of a description.
use Rattle.c_calls.specs.Prelude.{Candidate, Fingerprint, IceCreds, IsPreferred, Sdp, all_candidates, candidate_text, distinct, fingerprint_text, same_candidate, sdp_fingerprints}
use Rattle.std.specs.Borrow.{Bor}
use Rattle.std.specs.Prelude.{◌≡◌, ℕ, List, [], Option, Some, None, map}

-- the user fragment of credentials, and their password; nothing where there are none
abbrev pub ufrag_of : Option IceCreds → List ℕ
ufrag_of None = []
ufrag_of (Some creds) = creds.ufrag

abbrev pub pwd_of : Option IceCreds → List ℕ
pwd_of None = []
pwd_of (Some creds) = creds.pass

-- the text of a fingerprint; nothing of none
abbrev pub hash_text : Option Fingerprint → List ℕ
hash_text None = []
hash_text (Some print) = fingerprint_text print

-- the text is that of the fingerprint that is preferred
abbrev pub IsPreferredText : Sdp → List ℕ → Type 0
IsPreferredText sdp text = (found : Option Fingerprint) × IsPreferred (sdp_fingerprints sdp) found × (text ≡ hash_text found)

-- candidates that are lent
abbrev pub lent_candidates : List (Bor Candidate) → List Candidate
lent_candidates candidates = map (λ (candidate : Bor Candidate). candidate.now) candidates

-- the text of a candidate that is lent
abbrev pub lent_candidate_text : Bor Candidate → List ℕ
lent_candidate_text candidate = candidate_text candidate.now

-- the texts of the candidates, each once
abbrev pub candidate_texts : Sdp → List (List ℕ)
candidate_texts sdp = map candidate_text (distinct same_candidate (all_candidates sdp))
