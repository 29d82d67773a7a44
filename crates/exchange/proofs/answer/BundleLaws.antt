-- The group of an answer.
use Rattle.exchange.proofs.Common.{◌≡◌, ◌++◌, ℕ, Bool, true, false, cond, List, [], ◌∷◌, Option, None, filter_map, map, refl, sym, ap, ◌∙◌}
use Rattle.exchange.proofs.Common.{list_any, first, SessionAttribute, Sdp, Session, bundled_of}
use Rattle.exchange.specs.answer.AnsweredSession.{BundlesAccepted, session_allows_mixed, answered_session, group_lines, is_section_accepted}
use Rattle.exchange.specs.answer.AnsweredSession.{session_mixed_lines}
use Rattle.exchange.specs.answer.Bundle.{answered_bundle}
use Rattle.exchange.specs.answer.InBundle.{bundle_names_or_none}
use Rattle.exchange.specs.declared.state.own_side.OwnSide.{OwnSide}
use Rattle.str0m_sdp.specs.declared.attribute.SessionAttribute.TheVariants.{AllowMixedExts}

-- the group that lines say
abbrev group_in : List SessionAttribute → Option (List (List ℕ))
group_in lines = first (filter_map bundled_of lines)

-- lines on header extensions say none
no_group : (offered : List SessionAttribute) → group_in (session_mixed_lines offered) ≡ None
no_group offered = go (list_any session_allows_mixed offered) where
  go : (b : Bool) → group_in (cond b (AllowMixedExts ∷ []) []) ≡ None
  go true = refl
  go false = refl

-- the names that are listed
group_said : (names : List (List ℕ)) (offered : List SessionAttribute)
    → bundle_names_or_none (group_in (group_lines names ++ session_mixed_lines offered)) ≡ names
group_said [] offered = ap bundle_names_or_none (no_group offered)
group_said (name ∷ names) offered = refl

-- an empty group isn't said
group_unsaid : (names : List (List ℕ)) (offered : List SessionAttribute) → names ≡ []
    → group_in (group_lines names ++ session_mixed_lines offered) ≡ None
group_unsaid [] offered none = no_group offered
group_unsaid (name ∷ names) offered none = cc

pub bundles : (own : OwnSide) (offer answer : Sdp) → answer.session ≡ answered_session own offer answer.media_lines
    → BundlesAccepted offer answer
bundles own offer answer is =
    let names : List (List ℕ) = answered_bundle offer (map is_section_accepted answer.media_lines) in
    let group : group_in answer.session.attrs ≡ group_in (group_lines names ++ session_mixed_lines offer.session.attrs) =
    ap (λ (session : Session). group_in session.attrs) is in
    let listed : bundle_names_or_none (group_in answer.session.attrs) ≡ names =
    ap bundle_names_or_none group ∙ group_said names offer.session.attrs in
    record {
      names = listed;
      absent = λ none. group ∙ group_unsaid names offer.session.attrs (sym listed ∙ none);
    }
