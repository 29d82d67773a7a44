-- The places of an offer: those of the last exchange, and what is added (RFC 3264, section 8; RFC 8829, section 5.2.2).
use Rattle.exchange.specs.Prelude.{MediaLine, Sdp}
use Rattle.exchange.specs.answer.RejectedSection.{rejecting}
use Rattle.exchange.specs.declared.state.exchange.Exchange.{Exchange}
use Rattle.exchange.specs.declared.state.own_side.SectionDirection.{SectionDirection}
use Rattle.exchange.specs.offer.OfferSection.{next_section}
use Rattle.exchange.specs.section.Places.{IsPlaceOver}
use Rattle.std.specs.Prelude.{◌≡◌, ◌⊎◌, ◌+◌, ℕ, List, [], ◌∷◌, ◌++◌, Option, Some, None, slice_get}

-- the other side's section there
abbrev pub their_section_at : Option Sdp → ℕ → Option MediaLine
their_section_at None at = None
their_section_at (Some remote) at = slice_get remote.media_lines at

-- the next section that is added takes a place that is over; where none is left, the section there stays rejected
abbrev pub over_section : List MediaLine → MediaLine → MediaLine
over_section [] mine = rejecting mine
over_section (added ∷ more) mine = added

abbrev pub offer_added_tail : List MediaLine → List MediaLine
offer_added_tail [] = []
offer_added_tail (added ∷ more) = more

-- what is said at a place, and what is left of what is added
abbrev pub FillsPlace : Exchange → List SectionDirection → ℕ → MediaLine → List MediaLine → MediaLine → List MediaLine → Type 0
FillsPlace old ready at mine added said left =
    ((IsPlaceOver old.remote at mine → ⊥) × (said ≡ next_section old ready (their_section_at old.remote at) mine) × (left ≡ added))
    ⊎ (IsPlaceOver old.remote at mine × (said ≡ over_section added mine) × (left ≡ offer_added_tail added))

-- place by place from one on
abbrev pub FillsPlaces : Exchange → List SectionDirection → ℕ → List MediaLine → List MediaLine → List MediaLine → List MediaLine → Type 0
FillsPlaces old ready at [] added [] left = left ≡ added
FillsPlaces old ready at [] added (said ∷ behind) left = ⊥
FillsPlaces old ready at (mine ∷ more) added [] left = ⊥
FillsPlaces old ready at (mine ∷ more) added (said ∷ behind) left =
    (between : List MediaLine) × FillsPlace old ready at mine added said between × FillsPlaces old ready (at + 1) more between behind left

-- all places, and after them what is left of what is added
pub record FillsAllPlaces (old : Exchange) (ready : List SectionDirection) (places added sections : List MediaLine) : Type 0 where
  pub filled : List MediaLine
  pub left : List MediaLine
  pub fills : FillsPlaces old ready 0 places added filled left
  pub all : sections ≡ filled ++ left
