-- An offer of this side keeps its rules.
use Rattle.exchange.proofs.Common.{◌≡◌, ◌+◌, ◌++◌, inl, inr, ℕ, true, false, List, [], ◌∷◌, Option, Some, None, MatchOption, All, map, refl}
use Rattle.exchange.proofs.Common.{subst, sym, ◌∙◌, All-cons, All-head, All-nil, All-tail, flat_map, kind_rows, MediaAttribute, MediaType}
use Rattle.exchange.proofs.Common.{Audio, Video, Application, Unknown, Proto, Srtp, Sctp, ActPass, MediaLine, Sdp, row_attrs, MediaKind}
use Rattle.exchange.proofs.offer.RuleLaws.{direction_said, rejecting_shape}
use Rattle.exchange.proofs.section.PlaceLaws.{places_hold}
use Rattle.exchange.specs.answer.Accepted.{candidate_line, msid_lines}
use Rattle.exchange.specs.answer.RejectedSection.{rejecting}
use Rattle.exchange.specs.declared.offer.added.Added.{Added}
use Rattle.exchange.specs.declared.offer.added.Added.TheVariants as added
use Rattle.exchange.specs.declared.offer.added.AddedUnderMid.{AddedUnderMid}
use Rattle.exchange.specs.declared.state.exchange.Exchange.{Exchange}
use Rattle.exchange.specs.declared.state.own_side.DataChannels.{DataChannels}
use Rattle.exchange.specs.declared.state.own_side.SectionDirection.{SectionDirection}
use Rattle.exchange.specs.offer.Added.{offer_placed_under}
use Rattle.exchange.specs.offer.MadeOffer.{MakesOffer, offer_ready_with, sections_added}
use Rattle.exchange.specs.offer.OfferPlaces.{FillsPlace, FillsPlaces, their_section_at}
use Rattle.exchange.specs.offer.OfferRules.{HasNewOfferPlaceName, IsNewOfferName, IsOffered, KeepsOffered, KeepsOfferPlace}
use Rattle.exchange.specs.offer.OfferRules.{KeepsOfferPlaces}
use Rattle.exchange.specs.offer.OfferSection.{asked_section_lines, kept_section_lines, new_section, next_section, offered_channels}
use Rattle.exchange.specs.offer.OfferSection.{offered_media}
use Rattle.exchange.specs.offer.OfferSection.{section_by, section_for, section_with}
use Rattle.exchange.specs.offer.Rules.{HasOfferedShape}
use Rattle.exchange.specs.section.Stopped.{name_of}
use Rattle.exchange.specs.state.OwnSide.{direction_among}
use Rattle.exchange.specs.state.State.{sections_of}
use Rattle.str0m_sdp.specs.declared.attribute.MediaAttribute.TheVariants as media
use Rattle.str0m_values.specs.declared.media_kind.MediaKind.TheVariants as kind

-- ---- shapes and names

offer_channels_shape : (old : Exchange) (mine : MediaLine) (mid : List ℕ) (channels : Option DataChannels) → name_of mine ≡ Some mid
    → mine.typ ≡ Application → mine.proto ≡ Sctp
    → HasOfferedShape mine (offered_channels old.own mine mid channels)
offer_channels_shape old mine mid None name typ proto = rejecting_shape mine
offer_channels_shape old mine mid (Some channels) name typ proto = record { typ = sym typ; proto = sym proto; name = sym name }

offer_shape_by : (old : Exchange) (ready : List SectionDirection) (theirs : Option MediaLine) (mine : MediaLine) (name : Option (List ℕ))
    (typ : MediaType) (proto : Proto)
    → name_of mine ≡ name → mine.typ ≡ typ → mine.proto ≡ proto → HasOfferedShape mine (section_by old ready theirs mine name typ proto)
offer_shape_by old ready theirs mine (Some mid) Audio Srtp name typ proto = record { typ = sym typ; proto = sym proto; name = sym name }
offer_shape_by old ready theirs mine (Some mid) Video Srtp name typ proto = record { typ = sym typ; proto = sym proto; name = sym name }
offer_shape_by old ready theirs mine (Some mid) Application Sctp name typ proto = offer_channels_shape old mine mid old.own.channels name
    typ proto
offer_shape_by old ready theirs mine (Some mid) Audio Sctp name typ proto = rejecting_shape mine
offer_shape_by old ready theirs mine (Some mid) Video Sctp name typ proto = rejecting_shape mine
offer_shape_by old ready theirs mine (Some mid) Application Srtp name typ proto = rejecting_shape mine
offer_shape_by old ready theirs mine (Some mid) (Unknown text) proto name typ p = rejecting_shape mine
offer_shape_by old ready theirs mine None typ proto name t p = rejecting_shape mine

pub next_offer_shape : (old : Exchange) (ready : List SectionDirection) (theirs : Option MediaLine) (mine : MediaLine)
    → HasOfferedShape mine (next_section old ready theirs mine)
next_offer_shape old ready theirs mine = offer_shape_by old ready theirs mine (name_of mine) mine.typ mine.proto refl refl refl

offer_channels_name : (old : Exchange) (mid : List ℕ) (channels : Option DataChannels)
    → name_of (offered_channels old.own (section_with Application Sctp (media.Mid mid ∷ [])) mid channels) ≡ Some mid
offer_channels_name old mid None = refl
offer_channels_name old mid (Some channels) = refl

offer_name_for : (old : Exchange) (ready : List SectionDirection) (extensions : List MediaAttribute) (mid : List ℕ) (what : Added)
    → name_of (section_for old ready extensions mid what) ≡ Some mid
offer_name_for old ready extensions mid (added.Media kind direction) = refl
offer_name_for old ready extensions mid added.Channels = offer_channels_name old mid old.own.channels

pub new_section_name : (old : Exchange) (ready : List SectionDirection) (extensions : List MediaAttribute) (placed : AddedUnderMid)
    → name_of (new_section old ready extensions placed) ≡ Some placed.mid
new_section_name old ready extensions placed = offer_name_for old ready extensions placed.mid placed.added

-- ---- places

-- what holds of the names holds of the sections under them
pub offer_all_named : (P : List ℕ → Type 0) (old : Exchange) (ready : List SectionDirection) (extensions : List MediaAttribute)
    (names : List (List ℕ)) (what : List Added) → All P names
    → All (λ m. MatchOption (name_of m) ⊥ P) (map (new_section old ready extensions) (offer_placed_under names what))
offer_all_named P old ready extensions [] what all = All-nil (λ (m : MediaLine). MatchOption (name_of m) ⊥ P)
offer_all_named P old ready extensions (name ∷ names) [] all = All-nil (λ (m : MediaLine). MatchOption (name_of m) ⊥ P)
offer_all_named P old ready extensions (name ∷ names) (it ∷ more) all =
    All-cons (λ (m : MediaLine). MatchOption (name_of m) ⊥ P) (new_section old ready extensions (record { mid = name; added = it }))
    (map (new_section old ready extensions) (offer_placed_under names more))
    (subst (λ (found : Option (List ℕ)). MatchOption found ⊥ P)
    (sym (new_section_name old ready extensions (record { mid = name; added = it }))) (All-head P name names all))
    (offer_all_named P old ready extensions names more (All-tail P name names all))

record KeptOfferPlace (old : Exchange) (at : ℕ) (mine said : MediaLine) (left : List MediaLine) : Type 0 where
  place : KeepsOfferPlace old at mine said
  later : All (HasNewOfferPlaceName old) left

offer_place_kept : (old : Exchange) (ready : List SectionDirection) (at : ℕ) (mine : MediaLine) (added : List MediaLine) (said : MediaLine)
    (left : List MediaLine)
    → All (HasNewOfferPlaceName old) added → FillsPlace old ready at mine added said left → KeptOfferPlace old at mine said left
offer_place_kept old ready at mine added said left new (inl (runs, is, same)) =
    record {
      place = inl (subst (HasOfferedShape mine) (sym is) (next_offer_shape old ready (their_section_at old.remote at) mine));
      later = subst (All (HasNewOfferPlaceName old)) (sym same) new;
    }
offer_place_kept old ready at mine [] said left new (inr (over, is, same)) =
    record {
      place = inl (subst (HasOfferedShape mine) (sym is) (rejecting_shape mine));
      later = subst (All (HasNewOfferPlaceName old)) (sym same) new;
    }
offer_place_kept old ready at mine (x ∷ xs) said left new (inr (over, is, same)) =
    record {
      place = inr (over, subst (HasNewOfferPlaceName old) (sym is) (All-head (HasNewOfferPlaceName old) x xs new));
      later = subst (All (HasNewOfferPlaceName old)) (sym same) (All-tail (HasNewOfferPlaceName old) x xs new);
    }

offer_places_kept : (old : Exchange) (ready : List SectionDirection) (at : ℕ) (ms added filled left : List MediaLine)
    → All (HasNewOfferPlaceName old) added → FillsPlaces old ready at ms added filled left → KeepsOfferPlaces old at ms (filled ++ left)
offer_places_kept old ready at [] added [] left new fills = tt
offer_places_kept old ready at [] added (x ∷ filled) left new fills = absurd fills
offer_places_kept old ready at (m ∷ ms) added [] left new fills = absurd fills
offer_places_kept old ready at (m ∷ ms) added (x ∷ filled) left new fills =
    let kept : KeptOfferPlace old at m x fills.0 = offer_place_kept old ready at m added x fills.0 new fills.1 in
    (kept.place, offer_places_kept old ready (at + 1) ms fills.0 filled left kept.later fills.2)

pub offer_places : (old : Exchange) (names : List (List ℕ)) (offer : Sdp) → All (IsNewOfferName old) names → MakesOffer old names offer
    → KeepsOfferPlaces old 0 (sections_of old.local) offer.media_lines
offer_places old names offer new makes =
    subst (KeepsOfferPlaces old 0 (sections_of old.local)) (sym makes.sections.all)
    (offer_places_kept old (offer_ready_with old names) 0 (sections_of old.local) (sections_added old names) makes.sections.filled
    makes.sections.left
    (offer_all_named (IsNewOfferName old) old (offer_ready_with old names) _ names old.added new) makes.sections.fills)

-- ---- sections with a port

off : (m : MediaLine) (P : Type 0) → m.disabled ≡ true → m.disabled ≡ false → P
off m P t f = absurd (let e : true ≡ false = sym t ∙ f in cc)

rejecting_offered : (old : Exchange) (ready : List SectionDirection) (mine : MediaLine) → IsOffered old ready (rejecting mine)
rejecting_offered old ready mine = off (rejecting mine) (KeepsOffered old ready (rejecting mine)) refl

media_offered : (old : Exchange) (ready : List SectionDirection) (what : MediaKind) (mid : List ℕ) (asked : List MediaAttribute)
    → IsOffered old ready (offered_media old ready what mid asked)
media_offered old ready kind.Audio mid asked = λ on. record {
  creds = refl;
  fingerprint = refl;
  role = refl;
  flows = λ typ. direction_said old.own mid ActPass (direction_among old.own ready (Some mid) Audio)
      (map candidate_line old.own.candidates ++ asked ++ msid_lines old.own (direction_among old.own ready (Some mid) Audio) mid)
      (flat_map row_attrs (kind_rows kind.Audio true old.config.params.items));
  rows = refl;
}
media_offered old ready kind.Video mid asked = λ on. record {
  creds = refl;
  fingerprint = refl;
  role = refl;
  flows = λ typ. direction_said old.own mid ActPass (direction_among old.own ready (Some mid) Video)
      (map candidate_line old.own.candidates ++ asked ++ msid_lines old.own (direction_among old.own ready (Some mid) Video) mid)
      (flat_map row_attrs (kind_rows kind.Video true old.config.params.items));
  rows = refl;
}

absurd_media : (P : Type 0) → false ≡ true → P
absurd_media P e = cc

channels_offered : (old : Exchange) (ready : List SectionDirection) (instead : MediaLine) (mid : List ℕ) (channels : Option DataChannels)
    → IsOffered old ready (offered_channels old.own instead mid channels)
channels_offered old ready instead mid None = rejecting_offered old ready instead
channels_offered old ready instead mid (Some channels) =
    λ on. record { creds = refl; fingerprint = refl; role = refl; flows = λ typ. absurd_media _ typ; rows = tt }

offered_by : (old : Exchange) (ready : List SectionDirection) (theirs : Option MediaLine) (mine : MediaLine) (name : Option (List ℕ))
    (typ : MediaType) (proto : Proto)
    → IsOffered old ready (section_by old ready theirs mine name typ proto)
offered_by old ready theirs mine (Some mid) Audio Srtp = media_offered old ready kind.Audio mid (kept_section_lines theirs mine)
offered_by old ready theirs mine (Some mid) Video Srtp = media_offered old ready kind.Video mid (kept_section_lines theirs mine)
offered_by old ready theirs mine (Some mid) Application Sctp = channels_offered old ready mine mid old.own.channels
offered_by old ready theirs mine (Some mid) Audio Sctp = rejecting_offered old ready mine
offered_by old ready theirs mine (Some mid) Video Sctp = rejecting_offered old ready mine
offered_by old ready theirs mine (Some mid) Application Srtp = rejecting_offered old ready mine
offered_by old ready theirs mine (Some mid) (Unknown text) proto = rejecting_offered old ready mine
offered_by old ready theirs mine None typ proto = rejecting_offered old ready mine

offered_for : (old : Exchange) (ready : List SectionDirection) (extensions : List MediaAttribute) (mid : List ℕ) (what : Added)
    → IsOffered old ready (section_for old ready extensions mid what)
offered_for old ready extensions mid (added.Media kind direction) = media_offered old ready kind mid (asked_section_lines extensions)
offered_for old ready extensions mid added.Channels =
    channels_offered old ready (section_with Application Sctp (media.Mid mid ∷ [])) mid old.own.channels

all_offered : (old : Exchange) (ready : List SectionDirection) (extensions : List MediaAttribute) (placed : List AddedUnderMid)
    → All (IsOffered old ready) (map (new_section old ready extensions) placed)
all_offered old ready extensions [] = All-nil (IsOffered old ready)
all_offered old ready extensions (it ∷ more) =
    All-cons (IsOffered old ready) (new_section old ready extensions it) (map (new_section old ready extensions) more)
    (offered_for old ready extensions it.mid it.added) (all_offered old ready extensions more)

abbrev IsAnySection : MediaLine → Type 0
IsAnySection m = Unit {0}

pub offer_rules : (old : Exchange) (names : List (List ℕ)) (offer : Sdp) → MakesOffer old names offer
    → All (IsOffered old (offer_ready_with old names)) offer.media_lines
offer_rules old names offer makes =
    let ready : List SectionDirection = offer_ready_with old names in
    subst (All (IsOffered old ready)) (sym makes.sections.all)
    (places_hold (IsOffered old ready) IsAnySection old ready
    (λ theirs mine any. offered_by old ready theirs mine (name_of mine) mine.typ mine.proto)
    (λ mine any. rejecting_offered old ready mine)
    0 (sections_of old.local) (sections_added old names) makes.sections.filled makes.sections.left
    (λ k d lt. tt) (all_offered old ready _ (offer_placed_under names old.added)) makes.sections.fills)
