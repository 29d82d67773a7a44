-- The rules that an offer of this side keeps, beside the last exchange.
use Rattle.exchange.specs.Prelude.{AreMidsDistinct, MediaLine, MediaType, PayloadParams, first, is_group_listed, is_media, kind_rows, media_creds, media_fingerprint, media_setup, section_direction, section_mids, types, versioned_text}
use Rattle.exchange.specs.declared.offer.Offer.{Offer}
use Rattle.exchange.specs.declared.state.exchange.Exchange.{Exchange}
use Rattle.exchange.specs.declared.state.own_side.SectionDirection.{SectionDirection}
use Rattle.exchange.specs.declared.state.signaling_state.SignalingState.TheVariants.{Stable}
use Rattle.exchange.specs.offer.FreshNames.{AreFresh}
use Rattle.exchange.specs.offer.MadeOffer.{MakesOffer, offer_ready_with}
use Rattle.exchange.specs.offer.Rules.{HasOfferedShape}
use Rattle.exchange.specs.section.Places.{FollowsPlaces, IsPlaceOver}
use Rattle.exchange.specs.section.Stopped.{name_of}
use Rattle.exchange.specs.state.OwnSide.{direction_among}
use Rattle.exchange.specs.state.ReadBack.{IsReadBack}
use Rattle.exchange.specs.state.State.{sections_of, state_of, exchange_taken_names}
use Rattle.std.specs.Prelude.{All, ◌≡◌, ◌⊎◌, ◌+◌, ℕ, true, false, List, [], ◌∷◌, Some, MatchOption, filter_map, length}
use Rattle.str0m_sdp.specs.declared.attribute.media_type.MediaType.TheVariants.{Audio, Video}
use Rattle.str0m_sdp.specs.declared.attribute.setup.Setup.TheVariants.{ActPass}
use Rattle.str0m_values.specs.declared.media_kind.MediaKind.TheVariants as kind

-- ---- places

-- a name that no section of the session has had
abbrev pub IsNewOfferName : Exchange → List ℕ → Type 0
IsNewOfferName old name = is_group_listed (exchange_taken_names old) (Some name) ≡ false

abbrev pub HasNewOfferPlaceName : Exchange → MediaLine → Type 0
HasNewOfferPlaceName old m = MatchOption (name_of m) ⊥ (IsNewOfferName old)

-- an earlier section has its place, with its type, protocol and name; or the place is over, and has a new one (RFC 3264, section 8;
-- RFC 8829, section 5.2.2)
abbrev pub KeepsOfferPlace : Exchange → ℕ → MediaLine → MediaLine → Type 0
KeepsOfferPlace old at mine said = HasOfferedShape mine said ⊎ (IsPlaceOver old.remote at mine × HasNewOfferPlaceName old said)

-- each place from one on, and there may be more after them
abbrev pub KeepsOfferPlaces : Exchange → ℕ → List MediaLine → List MediaLine → Type 0
KeepsOfferPlaces old at [] sections = Unit {0}
KeepsOfferPlaces old at (mine ∷ more) [] = ⊥
KeepsOfferPlaces old at (mine ∷ more) (said ∷ behind) = KeepsOfferPlace old at mine said × KeepsOfferPlaces old (at + 1) more behind

-- ---- sections with a port

-- the m-line lists the types of exactly the rows of its kind, so that rows that are agreed on stand under their types (RFC 3264,
-- section 8.3.2)
abbrev pub ListsRows : List PayloadParams → MediaType → List ℕ → Type 0
ListsRows ours Audio pts = pts ≡ types (kind_rows kind.Audio true ours)
ListsRows ours Video pts = pts ≡ types (kind_rows kind.Video true ours)
ListsRows ours _ pts = Unit {0}

pub record KeepsOffered (old : Exchange) (ready : List SectionDirection) (m : MediaLine) : Type 0 where
  -- this side's credentials (RFC 8839, section 5.4), its fingerprint (RFC 8122, section 5), and both roles (RFC 8842, section 5.2)
  pub creds : media_creds m.attrs ≡ Some old.own.creds
  pub fingerprint : first (filter_map media_fingerprint m.attrs) ≡ Some old.own.fingerprint
  pub role : first (filter_map media_setup m.attrs) ≡ Some ActPass
  -- media flows as this side is ready for it (RFC 3264, section 5.1)
  pub flows : is_media m.typ ≡ true → section_direction m.attrs ≡ direction_among old.own ready (name_of m) m.typ
  pub rows : ListsRows old.config.params.items m.typ m.pts

abbrev pub IsOffered : Exchange → List SectionDirection → MediaLine → Type 0
IsOffered old ready m = m.disabled ≡ false → KeepsOffered old ready m

-- ---- the whole

-- this side makes the offer, which keeps the rules beside the last exchange, and is read back whole
pub record IsOfferedWith (old : Exchange) (offer : Offer) : Type 0 where
  pub stable : state_of old ≡ Stable
  pub names : (to : ℕ) × AreFresh (exchange_taken_names old) 0 offer.added to
  pub as_many : length offer.added ≡ length old.added
  pub new : All (IsNewOfferName old) offer.added
  pub says : MakesOffer old offer.added offer.sdp
  pub places : KeepsOfferPlaces old 0 (sections_of old.local) offer.sdp.media_lines
  pub follows : FollowsPlaces old.names (sections_of old.local) offer.sdp.media_lines
  pub rules : All (IsOffered old (offer_ready_with old offer.added)) offer.sdp.media_lines
  pub different : AreMidsDistinct (section_mids (sections_of old.local)) → AreMidsDistinct (section_mids offer.sdp.media_lines)
  pub read_back : IsReadBack offer.sdp (versioned_text offer.version offer.sdp)
  pub version : offer.version ≡ old.version
