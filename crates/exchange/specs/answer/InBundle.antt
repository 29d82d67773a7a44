-- Sections that share the transport of a bundle.
use Rattle.exchange.specs.Prelude.{MediaLine, Sdp, first, is_group_listed}
use Rattle.exchange.specs.section.Stopped.{bundle_group, name_of}
use Rattle.std.specs.Prelude.{◌||◌, ◌&&◌, ℕ, Bool, false, List, [], Option, Some, None, bytes_eq, find}

abbrev pub bundle_names_or_none : Option (List (List ℕ)) → List (List ℕ)
bundle_names_or_none None = []
bundle_names_or_none (Some names) = names

-- the names of the first `BUNDLE` group (RFC 9143, section 5); none where there is no such group
abbrev pub bundle_names : Sdp → List (List ℕ)
bundle_names sdp = bundle_names_or_none (bundle_group sdp)

abbrev pub is_same_bundle_name : Option (List ℕ) → Option (List ℕ) → Bool
is_same_bundle_name (Some name) (Some other) = bytes_eq name other
is_same_bundle_name _ _ = false

-- the section whose transport all of the bundle share: that of the first name (RFC 9143, section 7.3.1)
abbrev pub is_bundle_tagged : List (List ℕ) → MediaLine → Bool
is_bundle_tagged names m = is_same_bundle_name (first names) (name_of m)

abbrev pub tagged_section : Sdp → Option MediaLine
tagged_section sdp = find (is_bundle_tagged (bundle_names sdp)) sdp.media_lines

abbrev pub is_so_of_bundle_tag : (MediaLine → Bool) → Option MediaLine → Bool
is_so_of_bundle_tag test None = false
is_so_of_bundle_tag test (Some m) = test m

-- what is so of a section, or of the one whose transport it shares (RFC 9143, section 7.1.3)
abbrev pub is_so_in_bundle : (MediaLine → Bool) → Sdp → MediaLine → Bool
is_so_in_bundle test sdp m = test m || (is_group_listed (bundle_names sdp) (name_of m) && is_so_of_bundle_tag test (tagged_section sdp))
