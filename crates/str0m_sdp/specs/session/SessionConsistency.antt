-- Which sessions are consistent.
use Rattle.std.specs.List.{list_any}
use Rattle.std.specs.Prelude.{◌≡◌, ◌≢◌, ◌≤◌, ℕ, Bool, false, not, ◌||◌, List, filter, filter_map, length, Option, Some, None, MatchOption, All, Result, Ok, Err, AllPairs, bytes_eq}
use Rattle.str0m_sdp.specs.Common.{first}
use Rattle.str0m_sdp.specs.declared.attribute.SessionAttribute.{SessionAttribute}
use Rattle.str0m_sdp.specs.declared.attribute.SessionAttribute.TheVariants.{Group}
use Rattle.str0m_sdp.specs.declared.section.media_line.MediaLine.{MediaLine}
use Rattle.str0m_sdp.specs.declared.session.Sdp.{Sdp}
use Rattle.str0m_sdp.specs.declared.session.error.SdpError.{SdpError}
use Rattle.str0m_sdp.specs.declared.session.error.SdpError.TheVariants.{ParseError, Inconsistent, Memory}
use Rattle.str0m_sdp.specs.section.Consistency.{Consistent, mid_of}

-- the mid of a section, the first that it says
abbrev pub section_mid : MediaLine → Option (List ℕ)
section_mid m = first (filter_map mid_of m.attrs)

-- the mids of sections, in order
abbrev pub section_mids : List MediaLine → List (List ℕ)
section_mids sections = filter_map section_mid sections

-- no mid stands twice
abbrev pub AreMidsDistinct : List (List ℕ) → Type 0
AreMidsDistinct mids = AllPairs (λ a b. a ≢ b) mids

-- the mids that a group lists (RFC 5888, section 5), and those of the first group, whatever its type
abbrev pub group_of : SessionAttribute → Option (List (List ℕ))
group_of (Group typ mids) = Some mids
group_of _ = None

abbrev pub first_group : List SessionAttribute → Option (List (List ℕ))
first_group attrs = first (filter_map group_of attrs)

-- whether the mid stands in a group
abbrev pub is_group_listed : List (List ℕ) → Option (List ℕ) → Bool
is_group_listed group None = false
is_group_listed group (Some mid) = list_any (λ other. bytes_eq other mid) group

-- whether a section takes part in a group: port 0 means rejected outside the group, and in it that the section has no
-- transport but the group's (RFC 9143, section 6)
abbrev pub takes_part_in_group : List (List ℕ) → MediaLine → Bool
takes_part_in_group group m = not m.disabled || is_group_listed group (section_mid m)

-- the mids of those that do, in order
abbrev pub mids_in_part : List (List ℕ) → List MediaLine → List (List ℕ)
mids_in_part group sections = section_mids (filter (takes_part_in_group group) sections)

-- there is a group, and the first lists, in order, the sections that take part in it (RFC 8829, section 5.2.1; RFC 9143,
-- section 7.2, which leave the order free)
abbrev pub IsGrouped : Sdp → Type 0
IsGrouped sdp = MatchOption (first_group sdp.session.attrs) ⊥ (λ group. mids_in_part group sdp.media_lines ≡ group)

-- each section is consistent, no two have one mid (RFC 5888, section 4), and they are grouped
pub record ConsistentSdp (sdp : Sdp) : Type 0 where
  pub sections : All Consistent sdp.media_lines
  pub mids : AreMidsDistinct (section_mids sdp.media_lines)
  pub group : IsGrouped sdp

-- so few sections that their mids are compared each with each, which takes no memory
abbrev pub AreSectionsFew : List MediaLine → Type 0
AreSectionsFew sections = length sections ≤ 16

-- an answer says whether something holds, out of memory aside
abbrev pub SaysWhetherConsistent : Type 0 → Result (Unit {0}) SdpError → Type 0
SaysWhetherConsistent Holds (Ok done) = Holds
SaysWhetherConsistent Holds (Err (ParseError message)) = ⊥
SaysWhetherConsistent Holds (Err (Inconsistent message)) = Holds → ⊥
SaysWhetherConsistent Holds (Err Memory) = Unit {0}

-- a session contradicts itself, or memory was refused
abbrev pub IsSessionContradiction : SdpError → Type 0
IsSessionContradiction (ParseError message) = ⊥
IsSessionContradiction (Inconsistent message) = Unit {0}
IsSessionContradiction Memory = Unit {0}
