-- What holds over any list of calls of an exchange (RFC 3264, section 8; RFC 8829, section 5.2.2).
use Rattle.exchange.specs.Prelude.{AreMidsDistinct, LockedStay, MediaLine, is_group_listed, section_mids}
use Rattle.exchange.specs.declared.offer.pending.Pending.{Pending}
use Rattle.exchange.specs.declared.state.exchange.Exchange.{Exchange}
use Rattle.exchange.specs.section.Places.{FollowsPlaces}
use Rattle.exchange.specs.section.Stopped.{name_of}
use Rattle.exchange.specs.state.State.{sections_of}
use Rattle.std.specs.Prelude.{◌≡◌, ◌≢◌, ℕ, true, List, Option, None, All, IfSome, length}

-- each name that was there is there
abbrev pub ExchangeNamesGrow : List (List ℕ) → List (List ℕ) → Type 0
ExchangeNamesGrow before after = (name : Option (List ℕ)) → is_group_listed before name ≡ true → is_group_listed after name ≡ true

-- one state of an exchange after another: names are never forgotten, no section moves, a section in a place has the name of the
-- one that was there or one that none has had, and rows that are agreed on stay under their types
pub record Follows (before after : Exchange) : Type 0 where
  pub names : ExchangeNamesGrow before.names after.names
  pub places : FollowsPlaces before.names (sections_of before.local) (sections_of after.local)
  pub rows : length after.config.params.items ≡ length before.config.params.items
  pub stay : LockedStay before.config.params.items after.config.params.items

-- a section's name is among those that sections have had
abbrev pub IsExchangeNameKnown : List (List ℕ) → MediaLine → Type 0
IsExchangeNameKnown names m = name_of m ≢ None → is_group_listed names (name_of m) ≡ true

-- the sections of an open offer are in the places of the last exchange, and no two have one name
abbrev pub IsExchangePlacedSo : Exchange → Pending → Type 0
IsExchangePlacedSo exchange pending =
    FollowsPlaces exchange.names (sections_of exchange.local) pending.sdp.media_lines × AreMidsDistinct (section_mids pending.sdp.media_lines)

-- what holds of each exchange from the first call on: no two of its sections have one name, it knows those names, and an open
-- offer of this side moves no section
pub record IsExchangeSound (exchange : Exchange) : Type 0 where
  pub own_names : AreMidsDistinct (section_mids (sections_of exchange.local))
  pub known : All (IsExchangeNameKnown exchange.names) (sections_of exchange.local)
  pub placed : IfSome exchange.pending (IsExchangePlacedSo exchange)
