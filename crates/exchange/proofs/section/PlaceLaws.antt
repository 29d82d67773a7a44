-- The places of an offer, one after another.
use Rattle.exchange.proofs.Common.{arith, ◌≡◌, ◌<◌, ◌+◌, ◌++◌, inl, inr, ℕ, List, [], ◌∷◌, length, take, get_or, Option, length-take, refl}
use Rattle.exchange.proofs.Common.{subst, sym, ap, ◌∙◌, All, take_at_read, All-cons, All-head, All-tail, MediaLine}
use Rattle.exchange.specs.answer.RejectedSection.{rejecting}
use Rattle.exchange.specs.declared.state.exchange.Exchange.{Exchange}
use Rattle.exchange.specs.declared.state.own_side.SectionDirection.{SectionDirection}
use Rattle.exchange.specs.offer.OfferPlaces.{FillsPlace, FillsPlaces, their_section_at}
use Rattle.exchange.specs.offer.OfferSection.{next_section}

-- ---- one place more

place_filled_behind : (old : Exchange) (ready : List SectionDirection) (from i : ℕ) (ms added filled between left : List MediaLine)
    (mine said : MediaLine)
    → i ≡ from + length ms → FillsPlaces old ready from ms added filled between → FillsPlace old ready i mine between said left
    → FillsPlaces old ready from (ms ++ mine ∷ []) added (filled ++ said ∷ []) left
place_filled_behind old ready from i [] added [] between left mine said at fills place =
    let here : i ≡ from = omega (arith, at) in (
      left,
      subst (λ (j : ℕ). FillsPlace old ready j mine added said left) here
          (subst (λ (more : List MediaLine). FillsPlace old ready i mine more said left) fills place),
      refl,
    )
place_filled_behind old ready from i [] added (x ∷ filled) between left mine said at fills place = absurd fills
place_filled_behind old ready from i (m ∷ ms) added [] between left mine said at fills place = absurd fills
place_filled_behind old ready from i (m ∷ ms) added (x ∷ filled) between left mine said at fills place = (
  fills.0,
  fills.1,
  place_filled_behind old ready (from + 1) i ms fills.0 filled between left mine said (omega (arith, at)) fills.2
      place,
)

pub place_fills_more : (old : Exchange) (ready : List SectionDirection) (i : ℕ) (ms added filled between left : List MediaLine)
    (mine said : MediaLine)
    → i < length ms → mine ≡ get_or ms i mine → FillsPlaces old ready 0 (take i ms) added filled between
    → FillsPlace old ready i mine between said left
    → FillsPlaces old ready 0 (take (i + 1) ms) added (filled ++ said ∷ []) left
place_fills_more old ready i ms added filled between left mine said lt is fills place =
    let taken : take (i + 1) ms ≡ take i ms ++ mine ∷ [] =
    (take_at_read ms i mine lt).1 ∙ ap (λ (y : MediaLine). take i ms ++ y ∷ []) (sym is) in
    let at : i ≡ 0 + length (take i ms) = grind (arith, length-take) in
    subst (λ (places : List MediaLine). FillsPlaces old ready 0 places added (filled ++ said ∷ []) left) (sym taken)
    (place_filled_behind old ready 0 i (take i ms) added filled between left mine said at fills place)

-- ---- what holds of each section

record HoldsFilledPlaces (P : MediaLine → Type 0) (said : MediaLine) (left : List MediaLine) : Type 0 where
  here : P said
  behind_it : All P left

place_holds : (P Q : MediaLine → Type 0) (old : Exchange) (ready : List SectionDirection)
    → ((theirs : Option MediaLine) (mine : MediaLine) → Q mine → P (next_section old ready theirs mine))
    → ((mine : MediaLine) → Q mine → P (rejecting mine))
    → (at : ℕ) (mine : MediaLine) (added : List MediaLine) (said : MediaLine) (left : List MediaLine)
    → Q mine → All P added → FillsPlace old ready at mine added said left → HoldsFilledPlaces P said left
place_holds P Q old ready next over at mine added said left there all (inl (runs, is, same)) =
    record { here = subst P (sym is) (next (their_section_at old.remote at) mine there); behind_it = subst (All P) (sym same) all }
place_holds P Q old ready next over at mine [] said left there all (inr (ended, is, same)) =
    record { here = subst P (sym is) (over mine there); behind_it = subst (All P) (sym same) all }
place_holds P Q old ready next over at mine (x ∷ xs) said left there all (inr (ended, is, same)) =
    record { here = subst P (sym is) (All-head P x xs all); behind_it = subst (All P) (sym same) (All-tail P x xs all) }

-- what holds of what is added, and of each section that goes on or stays rejected where Q holds of the earlier one
pub places_hold : (P Q : MediaLine → Type 0) (old : Exchange) (ready : List SectionDirection)
    → ((theirs : Option MediaLine) (mine : MediaLine) → Q mine → P (next_section old ready theirs mine))
    → ((mine : MediaLine) → Q mine → P (rejecting mine)) → (at : ℕ) (ms added filled left : List MediaLine)
    → All Q ms → All P added → FillsPlaces old ready at ms added filled left → All P (filled ++ left)
places_hold P Q old ready next over at [] added [] left there all fills = subst (All P) (sym fills) all
places_hold P Q old ready next over at [] added (x ∷ filled) left there all fills = absurd fills
places_hold P Q old ready next over at (m ∷ ms) added [] left there all fills = absurd fills
places_hold P Q old ready next over at (m ∷ ms) added (x ∷ filled) left there all fills =
    let holds : HoldsFilledPlaces P x fills.0 =
    place_holds P Q old ready next over at m added x fills.0 (All-head Q m ms there) all fills.1 in
    All-cons P x (filled ++ left) holds.here
    (places_hold P Q old ready next over (at + 1) ms fills.0 filled left (All-tail Q m ms there) holds.behind_it fills.2)
