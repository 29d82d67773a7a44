-- Which sessions that were read may be printed again, and are read line by line as what they say.
use Rattle.std.specs.List.{AllByRecursion}
use Rattle.std.specs.Prelude.{◌≡◌, ◌≢◌, ℕ, List, [], Some, codes, slice_get, IsUtf8}
use Rattle.str0m_sdp.specs.declared.attribute.MediaAttribute.TheVariants.{Rid}
use Rattle.str0m_sdp.specs.declared.attribute.media_type.MediaType.TheVariants.{Application}
use Rattle.str0m_sdp.specs.declared.attribute.proto.Proto.TheVariants.{Srtp, Sctp}
use Rattle.str0m_signal.specs.Prelude.{MediaAttribute, MediaLine, MediaType, Proto, Sdp}
use Rattle.str0m_signal.specs.session.Reader.{Reading}

-- no restriction has the label of payload types for a key
abbrev pub NamesNoTypes : List (List ℕ × List ℕ) → Type 0
NamesNoTypes restrictions = AllByRecursion (λ pair. pair.0 ≢ codes "pt") restrictions

abbrev pub FitsAgain : MediaAttribute → Type 0
FitsAgain (Rid id direction types restrictions) = NamesNoTypes restrictions
FitsAgain _ = Unit {0}

-- an application is on Sctp, and all else has types
abbrev pub FitsKind : MediaType → Proto → List ℕ → Type 0
FitsKind Application proto pts = proto ≡ Sctp
FitsKind _ proto pts = pts ≢ []

abbrev pub SectionFitsAgain : MediaLine → Type 0
SectionFitsAgain m = FitsKind m.typ m.proto m.pts × AllByRecursion FitsAgain m.attrs

-- so are all sections
abbrev pub MayBeWrittenAgain : Sdp → Type 0
MayBeWrittenAgain sdp = AllByRecursion SectionFitsAgain sdp.media_lines

-- some text is read so
abbrev pub IsRead : Sdp → Type 0
IsRead sdp = (text : List ℕ) × (rest : List ℕ) × IsUtf8 text × Reading text (sdp, rest)

-- there is a section there, over Srtp
abbrev pub IsWritableOverSrtp : Sdp → ℕ → Type 0
IsWritableOverSrtp sdp i = (m : MediaLine) × (slice_get sdp.media_lines i ≡ Some m) × (m.proto ≡ Srtp)
