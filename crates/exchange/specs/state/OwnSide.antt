-- What a side says of itself.
use Rattle.exchange.specs.Prelude.{Direction, MediaLine, MediaType}
use Rattle.exchange.specs.declared.state.own_side.OwnSide.{OwnSide}
use Rattle.exchange.specs.declared.state.own_side.SectionDirection.{SectionDirection}
use Rattle.exchange.specs.section.Stopped.{name_of}
use Rattle.std.specs.Prelude.{ℕ, Bool, not, List, [], ◌∷◌, ◌++◌, Option, Some, None, bytes_eq, filter, find, option_map}
use Rattle.str0m_sdp.specs.declared.attribute.media_type.MediaType.TheVariants.{Audio, Video}
use Rattle.str0m_values.specs.declared.direction.Direction.TheVariants.{Inactive}

-- an entry of a name
abbrev pub is_own_side_entry_of : List ℕ → SectionDirection → Bool
is_own_side_entry_of mid entry = bytes_eq entry.mid mid

-- what the entries say of a name, the first that has it
abbrev pub direction_said_of : List SectionDirection → Option (List ℕ) → Option Direction
direction_said_of entries None = None
direction_said_of entries (Some mid) = option_map (λ entry. entry.direction) (find (is_own_side_entry_of mid) entries)

-- with this direction for a name, in place of others of that name
abbrev pub with_own_side_entry : List ℕ → Direction → List SectionDirection → List SectionDirection
with_own_side_entry mid direction entries = filter (λ entry. not (is_own_side_entry_of mid entry)) entries ++ record { mid = mid; direction = direction } ∷ []

-- what it is ready for in sections of a type
abbrev pub kind_direction : OwnSide → MediaType → Direction
kind_direction own Audio = own.audio
kind_direction own Video = own.video
kind_direction own _ = Inactive

-- what is said, else another direction
abbrev pub direction_said_or : Option Direction → Direction → Direction
direction_said_or None other = other
direction_said_or (Some direction) other = direction

-- what it is ready for in a section, where these entries say so by name: by its name, else by its type (RFC 3264, section 6.1)
abbrev pub direction_among : OwnSide → List SectionDirection → Option (List ℕ) → MediaType → Direction
direction_among own entries mid typ = direction_said_or (direction_said_of entries mid) (kind_direction own typ)

abbrev pub own_direction : OwnSide → MediaLine → Direction
own_direction own m = direction_among own own.directions (name_of m) m.typ
