-- Laws of the first fault of a session: there is none where the session is consistent, and only there.
use Rattle.str0m_sdp.proofs.Common.{◌≡◌, ℕ, List, [], ◌∷◌, Option, Some, None, All, arith, refl, ◌↔◌, cases_eq, eq-eqb, ne_eqb, MatchOption}
use Rattle.str0m_sdp.proofs.Common.{option_map}
use Rattle.str0m_sdp.proofs.session.FaultLaws.{no_fault, no_fault_among, no_first_fault, fault_or_none}
use Rattle.str0m_sdp.proofs.session.SessionLaws.{mid_again, mids_apart, session_same_from_none, session_none_from_same}
use Rattle.str0m_sdp.specs.declared.section.media_line.MediaLine.{MediaLine}
use Rattle.str0m_sdp.specs.declared.session.Sdp.{Sdp}
use Rattle.str0m_sdp.specs.declared.session.fault.SessionFault.{SessionFault}
use Rattle.str0m_sdp.specs.section.Consistency.{Consistent}
use Rattle.str0m_sdp.specs.session.Fault.{fault_text, first_fault, section_message}
use Rattle.str0m_sdp.specs.session.SessionConsistency.{AreMidsDistinct, ConsistentSdp, IsGrouped, mids_in_part, section_mids}
use Rattle.str0m_sdp.specs.session.SessionFault.{first_mid_again, first_group_difference, first_session_fault, group_fault, listing_fault}
use Rattle.str0m_sdp.specs.session.SessionFault.{sections_message}

mapped_none : {A B : Type 0} (f : A → B) (o : Option A) → (option_map f o ≡ None) ↔ (o ≡ None)
mapped_none f o = grind arith

session_fault_iff_both : {A B C D : Type 0} → (A ↔ C) → (B ↔ D) → (A × B) ↔ (C × D)
session_fault_iff_both a b = ((λ p. (a.0 p.0, b.0 p.1)), λ q. (a.1 q.0, b.1 q.1))

session_fault_iff_then : {A B C : Type 0} → (A ↔ B) → (B ↔ C) → A ↔ C
session_fault_iff_then a b = ((λ x. b.0 (a.0 x)), λ z. a.1 (b.1 z))

-- ---- the questions

distinct_mids : (mids : List (List ℕ)) → (first_mid_again mids ≡ None) ↔ AreMidsDistinct mids
distinct_mids [] = ((λ is i j d lt within. omega (arith, lt, within)), λ apart. refl)
distinct_mids (mid ∷ mids) = grind (arith, mid_again, mids_apart, distinct_mids mids)

session_fault_listing_same : (mids group : List (List ℕ)) → (listing_fault mids group ≡ None) ↔ (mids ≡ group)
session_fault_listing_same mids group = grind (
  arith,
  mapped_none,
  first_group_difference,
  cases_eq,
  eq-eqb,
  session_same_from_none,
  session_none_from_same,
  ne_eqb,
)

grouped : (sections : List MediaLine) (group : Option (List (List ℕ)))
    → (group_fault sections group ≡ None) ↔ MatchOption group ⊥ (λ group. mids_in_part group sections ≡ group)
grouped sections None = ((λ is. absurd cc), λ is. absurd is)
grouped sections (Some group) = session_fault_listing_same (mids_in_part group sections) group

-- ---- all of them

no_session_fault : (sdp : Sdp) → (first_session_fault sdp ≡ None) ↔ (AreMidsDistinct (section_mids sdp.media_lines) × IsGrouped sdp)
no_session_fault sdp = grind (arith, fault_or_none, session_fault_iff_both, mapped_none, distinct_mids, grouped)

pub no_fault_message : (m : MediaLine) → (section_message m ≡ None) ↔ Consistent m
no_fault_message m = session_fault_iff_then (mapped_none (fault_text m) (first_fault m)) (no_fault m)

pub no_fault_messages : (sections : List MediaLine) → (sections_message sections ≡ None) ↔ All Consistent sections
no_fault_messages sections = no_fault_among section_message Consistent no_fault_message sections

-- ---- as the answers of what looks for them

-- where no section has a message, the first has none
pub session_fault_first_section_quiet : (sections : List MediaLine) (m : MediaLine) (more : List MediaLine)
    → sections ≡ m ∷ more → sections_message sections ≡ None → Consistent m
session_fault_first_section_quiet sections m more whole none = grind (arith, no_fault_message, no_first_fault)

pub fault_unless_some : {A : Type 0} (o : Option A) → ((x : A) → o ≡ Some x → ⊥) → o ≡ None
fault_unless_some o never = grind arith

pub sdp_if_ok : (sdp : Sdp) → None ≡ sections_message sdp.media_lines → None ≡ first_session_fault sdp → ConsistentSdp sdp
sdp_if_ok sdp sections session = grind (arith, no_session_fault, no_fault_messages)

-- a consistent session has no message of a section, and no fault of its own
pub sections_quiet : (sdp : Sdp) → ConsistentSdp sdp → sections_message sdp.media_lines ≡ None
sections_quiet sdp is = (no_fault_messages sdp.media_lines).1 is.sections

pub sdp_not_some : (sdp : Sdp) (text : List ℕ) → Some text ≡ sections_message sdp.media_lines → ConsistentSdp sdp → ⊥
sdp_not_some sdp text told is = absurd (let none = sections_quiet sdp is in cc)

pub sdp_not_fault : (sdp : Sdp) (fault : SessionFault) → Some fault ≡ first_session_fault sdp → ConsistentSdp sdp → ⊥
sdp_not_fault sdp fault told is = grind (arith, no_session_fault)

pub ruleset session_fault_contradictions = (sections_quiet, sdp_not_some, sdp_not_fault)
