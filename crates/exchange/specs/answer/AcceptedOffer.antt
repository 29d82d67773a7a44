-- What answers an offer, before it is in force, and the tracks that a description says (RFC 8830, section 2).
use Rattle.exchange.specs.Prelude.{AllTypesDistinct, AreMidsDistinct, IsPlain, LockedStay, MediaAttribute, MediaLine, Sdp, section_mids, types, versioned_text}
use Rattle.exchange.specs.answer.AnsweredSession.{BundlesAccepted}
use Rattle.exchange.specs.answer.Offered.{IsOffer, NegotiatesOffer}
use Rattle.exchange.specs.declared.state.exchange.Exchange.{Exchange}
use Rattle.exchange.specs.offer.Rules.{HasOfferedShape, IsAcceptedExactlyByRules, KeepsRules}
use Rattle.exchange.specs.section.Places.{StaysInPlaces}
use Rattle.exchange.specs.state.Exchange.{AnswersOffer}
use Rattle.exchange.specs.state.ReadBack.{IsReadBack}
use Rattle.exchange.specs.state.State.{sections_of}
use Rattle.std.specs.List.{AllZip}
use Rattle.std.specs.Prelude.{◌≡◌, ℕ, List, Option, Some, None, All, filter_map, flat_map}
use Rattle.str0m_formats.specs.declared.row.codec_config.CodecConfig.{CodecConfig}
use Rattle.str0m_sdp.specs.declared.attribute.MediaAttribute.TheVariants.{Msid}

-- the id of the track of a line
abbrev pub track_of : MediaAttribute → Option (List ℕ)
track_of (Msid msid) = Some msid.track_id
track_of _ = None

-- the ids in a section, and in all sections in order
abbrev pub section_tracks : MediaLine → List (List ℕ)
section_tracks m = filter_map track_of m.attrs

abbrev pub tracks : Sdp → List (List ℕ)
tracks sdp = flat_map section_tracks sdp.media_lines

-- the text is this offer, its rounds lead to this configuration, and the description answers it
pub record IsAnsweredWith (old : Exchange) (text : List ℕ) (offer : Sdp) (after : CodecConfig) (answer : Sdp) : Type 0 where
  pub read : IsOffer text offer
  pub different : AreMidsDistinct (section_mids offer.media_lines)
  pub placed : StaysInPlaces old.names (sections_of old.local) old.remote offer
  pub shape : AllZip HasOfferedShape offer.media_lines answer.media_lines
  pub exactly : AllZip (IsAcceptedExactlyByRules old.own after.params.items offer) offer.media_lines answer.media_lines
  pub rules : AllZip (KeepsRules old.own after.params.items offer) offer.media_lines answer.media_lines
  pub answers : AnswersOffer old.own after.params.items offer answer
  pub bundle : BundlesAccepted offer answer
  pub mids : section_mids answer.media_lines ≡ section_mids offer.media_lines
  pub tracks : AreMidsDistinct (tracks answer)
  pub read_back : IsReadBack answer (versioned_text old.version answer)
  pub negotiated : NegotiatesOffer offer old.config.params.items after.params.items
  pub stay : LockedStay old.config.params.items after.params.items
  pub distinct : AllTypesDistinct (types old.config.params.items) → AllTypesDistinct (types after.params.items)
  pub plain : All IsPlain old.config.params.items → All IsPlain after.params.items
  pub distances : after.red_distances ≡ old.config.red_distances
