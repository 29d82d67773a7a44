-- An answer that fits its offer.
use Rattle.exchange.proofs.Common.{arith, ◌≡◌, ◌<◌, ◌≤◌, ℕ, List, All, Option, Some, get_or, length, take, inl, inr, subst, cases_lt}
use Rattle.exchange.proofs.Common.{slice_get, slice_get-get_or, slice_get_past, PayloadParams, MediaLine, Sdp}
use Rattle.exchange.specs.declared.offer.rule.Rule.{Rule}
use Rattle.exchange.specs.declared.offer.rule.Rule.TheVariants as rule
use Rattle.exchange.specs.offer.Fits.{BreaksRuleFirst, FitsAt, KeepsEveryRule, KeepsRule, rules_asked}
use Rattle.exchange.specs.section.Places.{StaysInPlaceAt}

-- after the last section of the offer nothing is asked
pub all_fit : (ours : List PayloadParams) (offer answer : Sdp) (n : ℕ) → length offer.media_lines ≤ n
    → ((k : ℕ) → k < n → FitsAt ours offer answer k) → (at : ℕ) → FitsAt ours offer answer at
all_fit ours offer answer n past fits at = elim (cases_lt at n) [
  | inl lt ↦ fits at lt
  | inr ge ↦ λ offered answered there here.
      let behind : length offer.media_lines ≤ at = omega arith in
      let gone = slice_get_past offer.media_lines at behind in
      cc
]

pub fits_all_in_place : (names : List (List ℕ)) (local : List MediaLine) (remote : Option Sdp) (offer : Sdp) (n : ℕ)
    → length offer.media_lines ≤ n
    → ((k : ℕ) → k < n → StaysInPlaceAt names local remote offer k) → (at : ℕ) → StaysInPlaceAt names local remote offer at
fits_all_in_place names local remote offer n past kept at = elim (cases_lt at n) [
  | inl lt ↦ kept at lt
  | inr ge ↦ λ m there.
      let behind : length offer.media_lines ≤ at = omega arith in
      let gone = slice_get_past offer.media_lines at behind in
      cc
]

-- ---- the rules of a section

-- the first that isn't kept
pub first_rule_broken : (ours : List PayloadParams) (answer : Sdp) (offered answered : MediaLine) (rules : List Rule) → rules ≡ rules_asked
    → (i : ℕ) → i < length rules
    → All (KeepsRule ours answer offered answered) (take i rules)
    → (KeepsRule ours answer offered answered (get_or rules i rule.Sections) → ⊥)
    → BreaksRuleFirst ours answer offered answered (get_or rules i rule.Sections)
first_rule_broken ours answer offered answered rules is i lt kept broken = record {
  place = i;
  stands = subst (λ those. slice_get those i ≡ Some (get_or rules i rule.Sections)) is (slice_get-get_or rules i rule.Sections lt);
  earlier = subst (λ those. All (KeepsRule ours answer offered answered) (take i those)) is kept;
  broken = broken;
}

-- each rule is among those that are asked, or asks nothing
pub rules_kept : (ours : List PayloadParams) (answer : Sdp) (offered answered : MediaLine) (rules : List Rule) → rules ≡ rules_asked
    → All (KeepsRule ours answer offered answered) rules → KeepsEveryRule ours answer offered answered
rules_kept ours answer offered answered rules is all = kept (subst (All (KeepsRule ours answer offered answered)) is all) where
  kept : All (KeepsRule ours answer offered answered) rules_asked → KeepsEveryRule ours answer offered answered
  kept all rule.MediaType = all 0 rule.MediaType (omega arith)
  kept all rule.Protocol = all 1 rule.Protocol (omega arith)
  kept all rule.Name = all 2 rule.Name (omega arith)
  kept all rule.Stopped = all 3 rule.Stopped (omega arith)
  kept all rule.Direction = all 4 rule.Direction (omega arith)
  kept all rule.Role = all 5 rule.Role (omega arith)
  kept all rule.Formats = all 6 rule.Formats (omega arith)
  kept all rule.Lines = all 7 rule.Lines (omega arith)
  kept all rule.Layers = all 8 rule.Layers (omega arith)
  kept all rule.Credentials = all 9 rule.Credentials (omega arith)
  kept all rule.Fingerprint = all 10 rule.Fingerprint (omega arith)
  kept all rule.Sections = tt
  kept all rule.Bundle = tt
  kept all rule.OwnName = tt
  kept all rule.Place = tt
