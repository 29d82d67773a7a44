-- An offer of this side leaves the sections of the last exchange in their places, and what is added has names that no section
-- has had.
use Rattle.exchange.proofs.Common.{arith, ◌≡◌, ◌+◌, ◌++◌, ◌||◌, ◌⊎◌, ℕ, suc, zero, Bool, true, false, List, [], ◌∷◌, map, Option, Some, All}
use Rattle.exchange.proofs.Common.{inl, inr, subst, sym, ap, ◌∙◌, true≢false, All-cons, All-head, All-nil, All-tail, same_Some, slice_get}
use Rattle.exchange.proofs.Common.{MediaAttribute, MediaLine, Sdp, is_group_listed, section_mids, pass_at_place}
use Rattle.exchange.proofs.offer.OfferRuleLaws.{new_section_name, next_offer_shape}
use Rattle.exchange.proofs.offer.RuleLaws.{rejecting_shape}
use Rattle.exchange.proofs.state.ExchangeFollowLaws.{follows_listed_more}
use Rattle.exchange.specs.declared.offer.added.Added.{Added}
use Rattle.exchange.specs.declared.offer.added.AddedUnderMid.{AddedUnderMid}
use Rattle.exchange.specs.declared.state.exchange.Exchange.{Exchange}
use Rattle.exchange.specs.declared.state.own_side.SectionDirection.{SectionDirection}
use Rattle.exchange.specs.offer.Added.{offer_placed_under}
use Rattle.exchange.specs.offer.MadeOffer.{MakesOffer, offer_ready_with, sections_added}
use Rattle.exchange.specs.offer.OfferPlaces.{FillsPlace, FillsPlaces, offer_added_tail, over_section, their_section_at}
use Rattle.exchange.specs.offer.OfferRules.{IsNewOfferName}
use Rattle.exchange.specs.offer.OfferSection.{new_section}
use Rattle.exchange.specs.section.Places.{FollowsPlaces, HasPlaceNameAt, IsNewPlaceName}
use Rattle.exchange.specs.section.Stopped.{name_of}
use Rattle.exchange.specs.state.State.{sections_of}

-- ---- names that are new

offer_unlisted_part : (b c : Bool) → (b || c) ≡ false → c ≡ false
offer_unlisted_part false c e = e
offer_unlisted_part true c e = absurd (true≢false e)

-- the sections of what is added
offer_added_new : (old : Exchange) (ready : List SectionDirection) (extensions : List MediaAttribute) (mids : List (List ℕ))
    (added : List Added)
    → All (IsNewOfferName old) mids
    → All (IsNewPlaceName old.names) (map (new_section old ready extensions) (offer_placed_under mids added))
offer_added_new old ready extensions [] added new = All-nil (IsNewPlaceName old.names)
offer_added_new old ready extensions (mid ∷ mids) [] new = All-nil (IsNewPlaceName old.names)
offer_added_new old ready extensions (mid ∷ mids) (first ∷ more) new =
    let placed : AddedUnderMid = record { mid = mid; added = first } in
    All-cons (IsNewPlaceName old.names) (new_section old ready extensions placed)
    (map (new_section old ready extensions) (offer_placed_under mids more))
    (subst (λ (name : Option (List ℕ)). is_group_listed old.names name ≡ false) (sym (new_section_name old ready extensions placed))
    (offer_unlisted_part _ _ (sym (follows_listed_more (section_mids (sections_of old.local)) old.names (Some mid))
    ∙ All-head (IsNewOfferName old) mid mids new)))
    (offer_added_new old ready extensions mids more (All-tail (IsNewOfferName old) mid mids new))

-- ---- place by place

record StandsNamedInOffer (names : List (List ℕ)) (mine said : MediaLine) (left : List MediaLine) : Type 0 where
  pub stands : (name_of said ≡ name_of mine) ⊎ IsNewPlaceName names said
  pub left_new : All (IsNewPlaceName names) left

offer_place_over_so : (names : List (List ℕ)) (mine : MediaLine) (added : List MediaLine) → All (IsNewPlaceName names) added
    → StandsNamedInOffer names mine (over_section added mine) (offer_added_tail added)
offer_place_over_so names mine [] new = record { stands = inl (rejecting_shape mine).name; left_new = new }
offer_place_over_so names mine (first ∷ more) new = record {
  stands = inr (All-head (IsNewPlaceName names) first more new);
  left_new = All-tail (IsNewPlaceName names) first more new;
}

offer_place_so : (names : List (List ℕ)) (old : Exchange) (ready : List SectionDirection) (at : ℕ) (mine : MediaLine)
    (added : List MediaLine)
    (said : MediaLine) (left : List MediaLine)
    → All (IsNewPlaceName names) added → FillsPlace old ready at mine added said left → StandsNamedInOffer names mine said left
offer_place_so names old ready at mine added said left new fills = elim fills [
  | inl on ↦ record {
    stands = inl (ap name_of on.1 ∙ (next_offer_shape old ready (their_section_at old.remote at) mine).name);
    left_new = subst (All (IsNewPlaceName names)) (sym on.2) new;
  }
  | inr over ↦
      let so = offer_place_over_so names mine added new in
      record {
        stands = subst (λ (m : MediaLine). (name_of m ≡ name_of mine) ⊎ IsNewPlaceName names m) (sym over.1) so.stands;
        left_new = subst (All (IsNewPlaceName names)) (sym over.2) so.left_new;
      }
]

offer_places_so : (names : List (List ℕ)) (old : Exchange) (ready : List SectionDirection) (at : ℕ)
    (places added said left : List MediaLine)
    → All (IsNewPlaceName names) added → FillsPlaces old ready at places added said left → FollowsPlaces names places (said ++ left)
offer_places_so names old ready at [] added [] left new fills = record {
  as_many = omega arith;
  each = λ k m there. inr (pass_at_place (IsNewPlaceName names) left k m (subst (All (IsNewPlaceName names)) (sym fills) new) there);
}
offer_places_so names old ready at [] added (said ∷ behind) left new fills = absurd fills
offer_places_so names old ready at (mine ∷ more) added [] left new fills = absurd fills
offer_places_so names old ready at (mine ∷ more) added (said ∷ behind) left new fills =
    let one = offer_place_so names old ready at mine added said fills.0 new fills.1 in
    let rest = offer_places_so names old ready (at + 1) more fills.0 behind left one.left_new fills.2 in
    record { as_many = omega (arith, rest.as_many); each = go one rest } where
      go : StandsNamedInOffer names mine said fills.0 → FollowsPlaces names more (behind ++ left)
          → (k : ℕ) (m : MediaLine) → slice_get (said ∷ behind ++ left) k ≡ Some m
          → HasPlaceNameAt (mine ∷ more) k m ⊎ IsNewPlaceName names m
      go one rest zero m there = subst (λ (x : MediaLine). (name_of x ≡ name_of mine) ⊎ IsNewPlaceName names x) (same_Some said m there)
          one.stands
      go one rest (suc k) m there = rest.each k m there

pub offer_follows : (old : Exchange) (names : List (List ℕ)) (offer : Sdp) → MakesOffer old names offer → All (IsNewOfferName old) names
    → FollowsPlaces old.names (sections_of old.local) offer.media_lines
offer_follows old names offer makes new =
    subst (λ (ms : List MediaLine). FollowsPlaces old.names (sections_of old.local) ms) (sym makes.sections.all)
    (offer_places_so old.names old (offer_ready_with old names) 0 (sections_of old.local) (sections_added old names) makes.sections.filled
    makes.sections.left
    (offer_added_new old (offer_ready_with old names) _ names old.added new) makes.sections.fills)
