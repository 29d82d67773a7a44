-- Which sections are consistent.
use Rattle.std.specs.Prelude.{◌≡◌, ◌≢◌, ◌≤◌, ◌⊎◌, ◌==◌, ℕ, Bool, true, false, List, [], ◌∷◌, Option, Some, None, IfSome, MatchOption, All, count_by, if◌then◌else◌}
use Rattle.str0m_formats.specs.declared.format.format_param.FormatParam.TheVariants.{Apt}
use Rattle.str0m_sdp.specs.Prelude.{CodecSpec, FormatParam, IsStaticSpec, ◌<|>◌}
use Rattle.str0m_sdp.specs.declared.attribute.MediaAttribute.{MediaAttribute}
use Rattle.str0m_sdp.specs.declared.attribute.MediaAttribute.TheVariants.{Setup, Mid, RecvOnly, SendRecv, SendOnly, Inactive, RtpMap, Fmtp}
use Rattle.str0m_sdp.specs.declared.attribute.proto.Proto.TheVariants.{Srtp}
use Rattle.str0m_sdp.specs.declared.section.media_line.MediaLine.{MediaLine}

abbrev pub is_mid : MediaAttribute → Bool
is_mid (Mid mid) = true
is_mid _ = false

-- the name that an attribute gives its section (RFC 5888, section 4)
abbrev pub mid_of : MediaAttribute → Option (List ℕ)
mid_of (Mid mid) = Some mid
mid_of _ = None

abbrev pub is_setup : MediaAttribute → Bool
is_setup (Setup setup) = true
is_setup _ = false

-- the four directions (RFC 8866, section 6.7)
abbrev pub is_direction : MediaAttribute → Bool
is_direction RecvOnly = true
is_direction SendRecv = true
is_direction SendOnly = true
is_direction Inactive = true
is_direction _ = false

-- a mapping of this payload type (RFC 8866, section 6.6)
abbrev pub maps : ℕ → MediaAttribute → Bool
maps pt (RtpMap n value) = n == pt
maps pt _ = false

-- the payload type stands for a codec without a mapping (RFC 3551, section 6)
abbrev pub NeedsNoMapping : ℕ → Type 0
NeedsNoMapping pt = (spec : CodecSpec) × IsStaticSpec pt spec

-- one mapping, or none where the type needs none
abbrev pub IsMapped : List MediaAttribute → ℕ → Type 0
IsMapped attrs pt = (count_by (maps pt) attrs ≡ 1) ⊎ ((count_by (maps pt) attrs ≡ 0) × NeedsNoMapping pt)

-- over Srtp one direction, and some type unless the section is disabled
abbrev pub FitsProto : MediaLine → Type 0
FitsProto m = m.proto ≡ Srtp → (count_by is_direction m.attrs ≡ 1) × (m.disabled ≡ false → m.pts ≢ [])

-- the primary type that a value of an fmtp line names (RFC 4588, section 8.1)
abbrev pub section_apt_of : FormatParam → Option ℕ
section_apt_of (Apt pt) = Some pt
section_apt_of _ = None

-- the first that the values name
abbrev pub section_apt_among : List FormatParam → Option ℕ
section_apt_among [] = None
section_apt_among (value ∷ values) = section_apt_of value <|> section_apt_among values

-- the first that an fmtp line of the payload type names
abbrev pub section_apt_in : ℕ → MediaAttribute → Option ℕ
section_apt_in pt (Fmtp n values) = if n == pt then section_apt_among values else None
section_apt_in pt _ = None

abbrev pub first_section_apt : ℕ → List MediaAttribute → Option ℕ
first_section_apt pt [] = None
first_section_apt pt (attr ∷ attrs) = section_apt_in pt attr <|> first_section_apt pt attrs

-- the value names no other type than this one
abbrev pub NamesNoOtherSectionApt : ℕ → FormatParam → Type 0
NamesNoOtherSectionApt first value = IfSome (section_apt_of value) (λ other. first ≡ other)

-- no value of an fmtp line names another primary type than the first that is named for its payload type
abbrev pub AgreesOnSectionApt : List MediaAttribute → MediaAttribute → Type 0
AgreesOnSectionApt attrs (Fmtp pt values) = IfSome (first_section_apt pt attrs) (λ first. All (NamesNoOtherSectionApt first) values)
AgreesOnSectionApt attrs _ = Unit {0}

pub record Consistent (m : MediaLine) : Type 0 where
  pub mid : count_by is_mid m.attrs ≡ 1
  pub setup : count_by is_setup m.attrs ≤ 1
  pub proto : FitsProto m
  pub mapped : All (IsMapped m.attrs) m.pts
  pub apt : All (AgreesOnSectionApt m.attrs) m.attrs

-- none where P holds, and a value where it doesn't
abbrev pub NoSectionFaultIff : {A : Type 0} → Option A → Type 0 → Type 0
NoSectionFaultIff o P = MatchOption o P (λ _. ¬ P)
