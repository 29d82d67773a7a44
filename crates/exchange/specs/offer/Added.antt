-- What is added to a session, and where an offer places it.
use Rattle.exchange.specs.Prelude.{Direction, MediaKind}
use Rattle.exchange.specs.declared.offer.added.Added.{Added}
use Rattle.exchange.specs.declared.offer.added.Added.TheVariants.{Media, Channels}
use Rattle.exchange.specs.declared.offer.added.AddedUnderMid.{AddedUnderMid}
use Rattle.exchange.specs.declared.state.exchange.Exchange.{Exchange}
use Rattle.exchange.specs.declared.state.own_side.SectionDirection.{SectionDirection}
use Rattle.std.specs.Prelude.{ℕ, List, [], ◌∷◌, ◌++◌, Option, Some, None, filter_map, map}

-- what was added, in order, each under its name
abbrev pub offer_placed_under : List (List ℕ) → List Added → List AddedUnderMid
offer_placed_under [] added = []
offer_placed_under (mid ∷ mids) [] = []
offer_placed_under (mid ∷ mids) (first ∷ more) = record { mid = mid; added = first } ∷ offer_placed_under mids more

abbrev pub added_names_of : List AddedUnderMid → List (List ℕ)
added_names_of placed = map (λ it. it.mid) placed

-- what media was added for, in the section of that name
abbrev pub direction_under : List ℕ → Added → Option SectionDirection
direction_under mid (Media kind direction) = Some (record { mid = mid; direction = direction })
direction_under mid Channels = None

abbrev pub placed_direction : AddedUnderMid → Option SectionDirection
placed_direction placed = direction_under placed.mid placed.added

-- after what this side is ready for in other sections
abbrev pub with_offer_placed : List SectionDirection → List AddedUnderMid → List SectionDirection
with_offer_placed entries placed = entries ++ filter_map placed_direction placed

-- ---- an exchange to which something is added

-- its next offer adds media of a kind, for which this side is ready in a direction
abbrev pub with_media : MediaKind → Direction → Exchange → Exchange
with_media kind direction before = record before { added = before.added ++ Media kind direction ∷ [] }

-- its next offer adds data channels
abbrev pub offer_with_channels : Exchange → Exchange
offer_with_channels before = record before { added = before.added ++ Channels ∷ [] }
