-- The rules that an answer to an offer of this side keeps.
use Rattle.exchange.specs.Prelude.{Direction, MediaLine, PayloadParams, Sdp, is_group_listed, is_media, receives, section_direction, sends}
use Rattle.exchange.specs.answer.Accepted.{setup_in_force}
use Rattle.exchange.specs.answer.InBundle.{bundle_names, is_so_in_bundle}
use Rattle.exchange.specs.answer.Rows.{answered_rows}
use Rattle.exchange.specs.answer.TurnedLayers.{TurnsLayers}
use Rattle.exchange.specs.declared.offer.rule.Rule.{Rule}
use Rattle.exchange.specs.declared.offer.rule.Rule.TheVariants as rule
use Rattle.exchange.specs.offer.Rules.{SaysOnlyOffered}
use Rattle.exchange.specs.section.Reached.{section_has_creds, has_fingerprint}
use Rattle.exchange.specs.section.Stopped.{name_of}
use Rattle.std.specs.Prelude.{◌≡◌, ◌≢◌, ◌<◌, ◌⊎◌, ℕ, true, false, cond, List, [], ◌∷◌, Option, Some, None, All, filter_map, length, take, slice_get}
use Rattle.str0m_sdp.specs.declared.attribute.setup.Setup.TheVariants.{ActPass}

-- ---- a section beside the one that is offered in its place

-- it sends only where the offer receives, and receives only where the offer sends (RFC 3264, section 6.1)
pub record FlowsWithinOffer (offered answered : Direction) : Type 0 where
  pub sending : sends answered ≡ true → receives offered ≡ true
  pub receiving : receives answered ≡ true → sends offered ≡ true

-- where a section is accepted, by its port (RFC 3264, section 6)
abbrev pub FitsIfAccepted : MediaLine → Type 0 → Type 0
FitsIfAccepted answered Holds = answered.disabled ≡ false → Holds

-- what each rule asks of a section, where `ours` are this side's rows after the rounds of the answer
abbrev pub KeepsRule : List PayloadParams → Sdp → MediaLine → MediaLine → Rule → Type 0
KeepsRule ours answer offered answered rule.MediaType = answered.typ ≡ offered.typ
KeepsRule ours answer offered answered rule.Protocol = answered.proto ≡ offered.proto
KeepsRule ours answer offered answered rule.Name = name_of answered ≡ name_of offered
KeepsRule ours answer offered answered rule.Stopped = offered.disabled ≡ true → answered.disabled ≡ true
KeepsRule ours answer offered answered rule.Direction =
    FitsIfAccepted answered (is_media answered.typ ≡ true → FlowsWithinOffer (section_direction offered.attrs) (section_direction answered.attrs))
-- none said means active (RFC 4145, section 4.1)
KeepsRule ours answer offered answered rule.Role = FitsIfAccepted answered (setup_in_force answer answered ≢ Some ActPass)
KeepsRule ours answer offered answered rule.Formats = FitsIfAccepted answered (is_media answered.typ ≡ true → answered_rows ours answered ≢ [])
KeepsRule ours answer offered answered rule.Lines = FitsIfAccepted answered (SaysOnlyOffered offered answered)
KeepsRule ours answer offered answered rule.Layers = FitsIfAccepted answered (TurnsLayers offered answered)
KeepsRule ours answer offered answered rule.Credentials = FitsIfAccepted answered (is_so_in_bundle (section_has_creds answer.session) answer answered ≡ true)
KeepsRule ours answer offered answered rule.Fingerprint = FitsIfAccepted answered (is_so_in_bundle (has_fingerprint answer.session) answer answered ≡ true)
-- those of the whole answer and of later offers ask nothing of a section by itself
KeepsRule ours answer offered answered rule.Sections = Unit {0}
KeepsRule ours answer offered answered rule.Bundle = Unit {0}
KeepsRule ours answer offered answered rule.OwnName = Unit {0}
KeepsRule ours answer offered answered rule.Place = Unit {0}

-- a section keeps every rule
abbrev pub KeepsEveryRule : List PayloadParams → Sdp → MediaLine → MediaLine → Type 0
KeepsEveryRule ours answer offered answered = (rule : Rule) → KeepsRule ours answer offered answered rule

-- so does the one at a place, where both sides have one there
abbrev pub FitsAt : List PayloadParams → Sdp → Sdp → ℕ → Type 0
FitsAt ours offer answer at = (offered answered : MediaLine)
    → slice_get offer.media_lines at ≡ Some offered → slice_get answer.media_lines at ≡ Some answered → KeepsEveryRule ours answer offered answered

-- ---- an answer as a whole

-- the name of a section that is accepted
abbrev pub fit_section_name : MediaLine → Option (List ℕ)
fit_section_name m = cond m.disabled None (name_of m)

abbrev pub unrejected_fit_names : Sdp → List (List ℕ)
unrejected_fit_names sdp = filter_map fit_section_name sdp.media_lines

-- its group lists accepted sections alone, and of those that the offer's group lists (RFC 9143, section 7.3)
pub record IsBundledSo (offer answer : Sdp) (mid : List ℕ) : Type 0 where
  pub accepted : is_group_listed (unrejected_fit_names answer) (Some mid) ≡ true
  pub offered : is_group_listed (bundle_names offer) (Some mid) ≡ true

abbrev pub BundlesSo : Sdp → Sdp → Type 0
BundlesSo offer answer = All (IsBundledSo offer answer) (bundle_names answer)

-- the answer fits the offer: as many sections (RFC 3264, section 6), each keeps every rule, and the group lists what it may
pub record FitsOffer (ours : List PayloadParams) (offer answer : Sdp) : Type 0 where
  pub as_many : length answer.media_lines ≡ length offer.media_lines
  pub each : (at : ℕ) → FitsAt ours offer answer at
  pub bundle : BundlesSo offer answer

-- ---- what doesn't fit

-- the rules of a section, in the order in which they are asked
abbrev pub rules_asked : List Rule
rules_asked =
    rule.MediaType ∷ (rule.Protocol ∷ (rule.Name ∷ (rule.Stopped ∷ (rule.Direction ∷ (rule.Role ∷ (rule.Formats ∷ (rule.Lines ∷ (rule.Layers ∷ (rule.Credentials ∷ (rule.Fingerprint ∷ []))))))))))

-- a section breaks a rule, and keeps all that are asked before it
pub record BreaksRuleFirst (ours : List PayloadParams) (answer : Sdp) (offered answered : MediaLine) (rule : Rule) : Type 0 where
  pub place : ℕ
  pub stands : slice_get rules_asked place ≡ Some rule
  pub earlier : All (KeepsRule ours answer offered answered) (take place rules_asked)
  pub broken : KeepsRule ours answer offered answered rule → ⊥

-- so does the section at a place
pub record BreaksRuleAt (ours : List PayloadParams) (offer answer : Sdp) (at : ℕ) (rule : Rule) : Type 0 where
  pub offered : MediaLine
  pub answered : MediaLine
  pub offered_there : slice_get offer.media_lines at ≡ Some offered
  pub answered_there : slice_get answer.media_lines at ≡ Some answered
  pub first : BreaksRuleFirst ours answer offered answered rule

-- and those before it keep every rule
abbrev pub BreaksRuleFirstAt : List PayloadParams → Sdp → Sdp → ℕ → Rule → Type 0
BreaksRuleFirstAt ours offer answer at rule = ((before : ℕ) → before < at → FitsAt ours offer answer before) × BreaksRuleAt ours offer answer at rule

-- the answer as a whole breaks one: it has too many or too few sections, or all fit and the group lists what it may not
abbrev pub BreaksRuleWhole : List PayloadParams → Sdp → Sdp → Rule → Type 0
BreaksRuleWhole ours offer answer rule.Sections = length answer.media_lines ≢ length offer.media_lines
BreaksRuleWhole ours offer answer rule.Bundle =
    (length answer.media_lines ≡ length offer.media_lines) × ((at : ℕ) → FitsAt ours offer answer at) × (BundlesSo offer answer → ⊥)
BreaksRuleWhole ours offer answer _ = ⊥

-- the first that is broken: the number of sections is asked first, then section by section each rule, then the group
abbrev pub BreaksRule : List PayloadParams → Sdp → Sdp → ℕ → Rule → Type 0
BreaksRule ours offer answer at rule =
    ((length answer.media_lines ≡ length offer.media_lines) × BreaksRuleFirstAt ours offer answer at rule) ⊎ BreaksRuleWhole ours offer answer rule
