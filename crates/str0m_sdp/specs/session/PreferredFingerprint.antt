-- Which of several fingerprints is preferred (RFC 8122, section 5.1).
use Rattle.std.specs.List.{IsFirstBest, best_of}
use Rattle.std.specs.Prelude.{◌≡◌, ℕ, Bool, List, [], ◌∷◌, Option, Some, None, MatchOption, filter_map, get_or, length, map, nat_lt, if◌then◌else◌}
use Rattle.str0m_sdp.specs.Prelude.{Fingerprint, hash_preference_of}
use Rattle.str0m_sdp.specs.declared.section.media_line.MediaLine.{MediaLine}
use Rattle.str0m_sdp.specs.declared.session.Sdp.{Sdp}
use Rattle.str0m_sdp.specs.session.Transport.{session_fingerprint, media_fingerprint}

-- a hash function that stands before the other in the order of preference
abbrev pub is_preferred : Fingerprint → Fingerprint → Bool
is_preferred one other = nat_lt (hash_preference_of one.hash_func) (hash_preference_of other.hash_func)

-- none of none; else one to which no other is preferred, and which is preferred to each before it
abbrev pub IsPreferred : List Fingerprint → Option Fingerprint → Type 0
IsPreferred prints found = MatchOption found (prints ≡ [])
    (λ print. (i : ℕ) × IsFirstBest is_preferred prints (length prints) i × (get_or prints i print ≡ print))

-- the one to keep of the best so far and another
abbrev pub better_fingerprint_of : Option Fingerprint → Fingerprint → Fingerprint
better_fingerprint_of None other = other
better_fingerprint_of (Some best) other = if is_preferred other best then other else best

-- that one, as std's `best_of` finds it
abbrev pub preferred : List Fingerprint → Option Fingerprint
preferred [] = None
preferred (print ∷ prints) = Some (best_of is_preferred print prints)

-- the first list that holds anything
abbrev pub first_filled_fingerprints : {X : Type 0} → List (List X) → List X
first_filled_fingerprints [] = []
first_filled_fingerprints ([] ∷ lists) = first_filled_fingerprints lists
first_filled_fingerprints ((x ∷ xs) ∷ lists) = x ∷ xs

-- the fingerprints of a section
abbrev pub media_fingerprints : MediaLine → List Fingerprint
media_fingerprints m = filter_map media_fingerprint m.attrs

-- the fingerprints of the session, else of the first section that has one
abbrev pub sdp_fingerprints : Sdp → List Fingerprint
sdp_fingerprints sdp = first_filled_fingerprints (filter_map session_fingerprint sdp.session.attrs ∷ map media_fingerprints sdp.media_lines)
