-- The names that the group of an answer lists (RFC 9143, section 7.3).
use Rattle.exchange.specs.Prelude.{MediaLine, Sdp, is_group_listed}
use Rattle.exchange.specs.section.Stopped.{bundle_group, name_of}
use Rattle.std.specs.Prelude.{ℕ, Bool, true, false, List, [], Option, Some, None, filter, filter_map, zip}

-- the name of a section that is accepted
abbrev pub answered_bundle_name : MediaLine × Bool → Option (List ℕ)
answered_bundle_name (m, true) = name_of m
answered_bundle_name (m, false) = None

abbrev pub answered_bundle_names : List MediaLine → List Bool → List (List ℕ)
answered_bundle_names sections accepted = filter_map answered_bundle_name (zip sections accepted)

-- the names of a group that are those of accepted sections, in the group's order; none where there is no group
abbrev pub answered_bundle_among : List (List ℕ) → Option (List (List ℕ)) → List (List ℕ)
answered_bundle_among names None = []
answered_bundle_among names (Some group) = filter (λ mid. is_group_listed names (Some mid)) group

abbrev pub answered_bundle : Sdp → List Bool → List (List ℕ)
answered_bundle offer accepted = answered_bundle_among (answered_bundle_names offer.media_lines accepted) (bundle_group offer)
