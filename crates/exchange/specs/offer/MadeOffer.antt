-- The offer that this side makes (RFC 3264, section 8; RFC 8829, section 5.2).
use Rattle.exchange.specs.Prelude.{MediaLine, Sdp, Session}
use Rattle.exchange.specs.answer.AnsweredSession.{group_lines, is_section_accepted, session_mixed_lines}
use Rattle.exchange.specs.answer.Bundle.{answered_bundle_names}
use Rattle.exchange.specs.declared.offer.added.AddedUnderMid.{AddedUnderMid}
use Rattle.exchange.specs.declared.state.exchange.Exchange.{Exchange}
use Rattle.exchange.specs.declared.state.own_side.SectionDirection.{SectionDirection}
use Rattle.exchange.specs.offer.Added.{offer_placed_under, with_offer_placed}
use Rattle.exchange.specs.offer.OfferExtensions.{extension_lines}
use Rattle.exchange.specs.offer.OfferPlaces.{FillsAllPlaces}
use Rattle.exchange.specs.offer.OfferSection.{new_section}
use Rattle.exchange.specs.state.State.{sections_of, session_of}
use Rattle.std.specs.Prelude.{◌≡◌, ℕ, List, ◌++◌, None, map}

-- what was added, under these names
abbrev pub offer_placed_as : Exchange → List (List ℕ) → List AddedUnderMid
offer_placed_as old names = offer_placed_under names old.added

-- what this side is ready for, with that of what is added
abbrev pub offer_ready_with : Exchange → List (List ℕ) → List SectionDirection
offer_ready_with old names = with_offer_placed old.own.directions (offer_placed_as old names)

-- the sections of what is added
abbrev pub sections_added : Exchange → List (List ℕ) → List MediaLine
sections_added old names =
    map (new_section old (offer_ready_with old names) (extension_lines (sections_of old.local) old.own.extensions)) (offer_placed_as old names)

-- one group of all sections with a port, in order (RFC 9143, section 7.2)
abbrev pub bundled_names : List MediaLine → List (List ℕ)
bundled_names sections = answered_bundle_names sections (map is_section_accepted sections)

-- the session's part of an offer with these sections
abbrev pub offer_session : Exchange → List MediaLine → Session
offer_session old sections = record {
  id = old.own.session_id;
  bw = None;
  attrs = group_lines (bundled_names sections) ++ session_mixed_lines (session_of old.local);
}

-- the description offers what was added, under these names, and what goes on of the last exchange
pub record MakesOffer (old : Exchange) (names : List (List ℕ)) (offer : Sdp) : Type 0 where
  pub sections : FillsAllPlaces old (offer_ready_with old names) (sections_of old.local) (sections_added old names) offer.media_lines
  pub session : offer.session ≡ offer_session old offer.media_lines
