-- The places of sections over several exchanges (RFC 3264, section 8; RFC 8829, section 5.2.2).
use Rattle.exchange.specs.Prelude.{HoldsMids, MediaLine, Sdp, is_group_listed}
use Rattle.exchange.specs.answer.InBundle.{bundle_names}
use Rattle.exchange.specs.section.Stopped.{IsStoppedAt, name_of}
use Rattle.std.specs.BTreeSet.{BTreeSet}
use Rattle.std.specs.Borrow.{Bor}
use Rattle.std.specs.Prelude.{◌≡◌, ◌<◌, ◌≤◌, ◌⊎◌, ℕ, true, false, List, Option, Some, IfSome, IsSomeAnd, length, slice_get}

-- ---- which places may have a new name

-- the place of a section of this side is over: it has port 0, or the other side has stopped its own
abbrev pub IsPlaceOver : Option Sdp → ℕ → MediaLine → Type 0
IsPlaceOver remote at mine = (mine.disabled ≡ true) ⊎ IsSomeAnd remote (λ sdp. IsStoppedAt sdp at)

-- the names of the other side's first `BUNDLE` group in order, where it has said a description
abbrev pub HoldsGroup : Option Sdp → BTreeSet (Bor (List ℕ)) → Type 0
HoldsGroup remote group = IfSome remote (λ sdp. HoldsMids group (bundle_names sdp))

-- it is over, where it isn't after the last
abbrev pub IsPlaceFree : List MediaLine → Option Sdp → ℕ → Type 0
IsPlaceFree local remote at = IfSome (slice_get local at) (IsPlaceOver remote at)

-- ---- which names stand there

-- the section at a place has the name of this one
abbrev pub HasPlaceNameAt : List MediaLine → ℕ → MediaLine → Type 0
HasPlaceNameAt sections at m = IsSomeAnd (slice_get sections at) (λ earlier. name_of m ≡ name_of earlier)

-- no section has had the name
abbrev pub IsNewPlaceName : List (List ℕ) → MediaLine → Type 0
IsNewPlaceName names m = is_group_listed names (name_of m) ≡ false

-- a section has the name of its place, or a new one where the place is free
abbrev pub StaysInPlace : List (List ℕ) → List MediaLine → Option Sdp → ℕ → MediaLine → Type 0
StaysInPlace names local remote at m = HasPlaceNameAt local at m ⊎ (IsPlaceFree local remote at × IsNewPlaceName names m)

-- so at a place, where there is a section
abbrev pub StaysInPlaceAt : List (List ℕ) → List MediaLine → Option Sdp → Sdp → ℕ → Type 0
StaysInPlaceAt names local remote offer at = (m : MediaLine) → slice_get offer.media_lines at ≡ Some m → StaysInPlace names local remote at m

-- an offer after earlier exchanges, where `local` are this side's sections in the last one: at least as many, each in its place
pub record StaysInPlaces (names : List (List ℕ)) (local : List MediaLine) (remote : Option Sdp) (offer : Sdp) : Type 0 where
  pub as_many : length local ≤ length offer.media_lines
  pub each : (at : ℕ) → StaysInPlaceAt names local remote offer at

-- the first place that isn't kept: after the last section of an offer that has too few, or at a section
abbrev pub MovesPlaceAt : List (List ℕ) → List MediaLine → Option Sdp → Sdp → ℕ → Type 0
MovesPlaceAt names local remote offer at =
    ((before : ℕ) → before < at → StaysInPlaceAt names local remote offer before)
    × (((at ≡ length offer.media_lines) × (at < length local)) ⊎ (StaysInPlaceAt names local remote offer at → ⊥))

-- ---- what comes after what

-- sections after others, where `names` are those that sections had before: none moves, and a new name is new
pub record FollowsPlaces (names : List (List ℕ)) (before after : List MediaLine) : Type 0 where
  pub as_many : length before ≤ length after
  pub each : (at : ℕ) (m : MediaLine) → slice_get after at ≡ Some m → HasPlaceNameAt before at m ⊎ IsNewPlaceName names m
