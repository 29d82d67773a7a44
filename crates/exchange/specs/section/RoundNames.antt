-- Which outcome of a text's rounds is of which section.
use Rattle.exchange.specs.Prelude.{MediaLine, Sdp, is_media}
use Rattle.exchange.specs.section.Stopped.{name_of}
use Rattle.std.specs.Prelude.{ℕ, Bool, List, Option, filter, map}

-- audio and video sections have a round each, disabled ones too
abbrev pub has_round : MediaLine → Bool
has_round m = is_media m.typ

-- their names, in order
abbrev pub negotiated_names : Sdp → List (Option (List ℕ))
negotiated_names sdp = map name_of (filter has_round sdp.media_lines)
