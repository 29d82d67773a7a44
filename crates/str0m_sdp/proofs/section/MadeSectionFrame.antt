-- Lines that describe no payload type answer nothing.
use Rattle.str0m_sdp.proofs.Common.{arith, ◌≡◌, ℕ, false, List, None, AllByRecursion, Codec, CodecSpec, FormatParam}
use Rattle.str0m_sdp.specs.attribute.Feedback.{is_feedback}
use Rattle.str0m_sdp.specs.declared.attribute.MediaAttribute.{MediaAttribute}
use Rattle.str0m_sdp.specs.section.Companions.{companion_in, listed_type}
use Rattle.str0m_sdp.specs.section.Consistency.{maps, section_apt_of, section_apt_in}
use Rattle.str0m_sdp.specs.section.MadeSection.{is_of_type}
use Rattle.str0m_sdp.specs.section.Mappings.{mapping}
use Rattle.str0m_sdp.specs.section.SectionRows.{fmtp_values_in}

-- the value names no payload type
abbrev pub NamesNoType : FormatParam → Type 0
NamesNoType value = (section_apt_of value ≡ None) × (listed_type value ≡ None)

-- no value of these lines does
abbrev pub NameNoType : List (List FormatParam) → Type 0
NameNoType vs = AllByRecursion (λ v. AllByRecursion NamesNoType v) vs

abbrev pub HasNoTypes : List MediaAttribute → Type 0
HasNoTypes frame = AllByRecursion (λ attr. is_of_type attr ≡ false) frame

pub frame_mapping : (attr : MediaAttribute) → is_of_type attr ≡ false → mapping attr ≡ None
frame_mapping attr h = grind arith

pub frame_maps : (t : ℕ) (attr : MediaAttribute) → is_of_type attr ≡ false → maps t attr ≡ false
frame_maps t attr h = grind arith

pub frame_feedback : (t : ℕ) (words : List ℕ) (attr : MediaAttribute) → is_of_type attr ≡ false → is_feedback t words attr ≡ false
frame_feedback t words attr h = grind arith

pub frame_values : (t : ℕ) (attr : MediaAttribute) → is_of_type attr ≡ false → fmtp_values_in t attr ≡ None
frame_values t attr h = grind arith

pub frame_apt : (t : ℕ) (attr : MediaAttribute) → is_of_type attr ≡ false → section_apt_in t attr ≡ None
frame_apt t attr h = grind arith

pub frame_companion : (c : Codec) (mapped : List (ℕ × CodecSpec)) (t : ℕ) (attr : MediaAttribute) → is_of_type attr ≡ false
    → companion_in c mapped t attr ≡ None
frame_companion c mapped t attr h = grind arith
