-- What an answer says of the session as a whole.
use Rattle.exchange.specs.Prelude.{MediaLine, Sdp, Session, SessionAttribute}
use Rattle.exchange.specs.answer.Bundle.{answered_bundle}
use Rattle.exchange.specs.answer.InBundle.{bundle_names}
use Rattle.exchange.specs.declared.state.own_side.OwnSide.{OwnSide}
use Rattle.exchange.specs.section.Stopped.{bundle_group}
use Rattle.std.specs.List.{list_any}
use Rattle.std.specs.Prelude.{◌≡◌, ℕ, Bool, true, false, not, List, [], ◌∷◌, ◌++◌, None, codes, map, if◌then◌else◌}
use Rattle.str0m_sdp.specs.declared.attribute.SessionAttribute.TheVariants.{AllowMixedExts, Group}

-- the section has a port (RFC 3264, section 6)
abbrev pub is_section_accepted : MediaLine → Bool
is_section_accepted m = not m.disabled

-- the group of those that share a transport; no group where none does (RFC 9143, section 7.3)
abbrev pub group_lines : List (List ℕ) → List SessionAttribute
group_lines [] = []
group_lines (mid ∷ mids) = Group (codes "BUNDLE") (mid ∷ mids) ∷ []

-- header extensions of both lengths may be mixed (RFC 8285, section 6)
abbrev pub session_allows_mixed : SessionAttribute → Bool
session_allows_mixed AllowMixedExts = true
session_allows_mixed _ = false

-- so where the offer says so
abbrev pub session_mixed_lines : List SessionAttribute → List SessionAttribute
session_mixed_lines offered = if list_any session_allows_mixed offered then AllowMixedExts ∷ [] else []

-- the session's part of the answer with these sections
abbrev pub answered_session : OwnSide → Sdp → List MediaLine → Session
answered_session own offer answered = record {
  id = own.session_id;
  bw = None;
  attrs = group_lines (answered_bundle offer (map is_section_accepted answered)) ++ session_mixed_lines offer.session.attrs;
}

-- the answer's first `BUNDLE` group lists the accepted sections of the offer's first such group, in its order; there is no such
-- group where none is (RFC 9143, section 7.3)
pub record BundlesAccepted (offer answer : Sdp) : Type 0 where
  pub names : bundle_names answer ≡ answered_bundle offer (map is_section_accepted answer.media_lines)
  pub absent : bundle_names answer ≡ [] → bundle_group answer ≡ None
