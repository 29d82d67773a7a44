-- The lines of a section.
use Rattle.std.specs.Prelude.{◌≡◌, ◌⊎◌, ◌↔◌, ℕ, Bool, List, [], ◌++◌, Option, codes, IsTrue}
use Rattle.str0m_sdp.specs.declared.attribute.media_type.MediaType.TheVariants.{Audio, Video, Application, Unknown}
use Rattle.str0m_sdp.specs.declared.attribute.proto.Proto.TheVariants.{Srtp, Sctp}
use Rattle.str0m_sdp.specs.declared.label.TheConstants.{AUDIO, VIDEO, APPLICATION, SRTP, SCTP, OLD_SCTP}
use Rattle.str0m_signal.specs.Prelude.{Bandwidth, FirstFit, IsNum, IsRest, IsWithout, IsWord, MediaLine, MediaType, PartedAddress, Proto}
use Rattle.str0m_signal.specs.form.MediaAttribute.{IsMediaLine}
use Rattle.str0m_signal.specs.line.Lines.{Line, OneLine, TakenLine, Run}

-- a letter with `=`, and one or more characters
abbrev pub IsSessionField : List ℕ → List ℕ → List ℕ → Type 0
IsSessionField letter content text = (content ≡ letter ++ text) × IsRest text

-- `b=` type `:` value (RFC 8866, section 5.8)
abbrev pub IsBandwidth : List ℕ → Bandwidth → Type 0
IsBandwidth content bw = (content ≡ codes "b=" ++ (bw.typ ++ (codes ":" ++ bw.val))) × IsWithout 58 bw.typ × IsRest bw.val

abbrev pub TextBegins : List ℕ → List ℕ → Type 0
TextBegins front text = (rest : List ℕ) × (text ≡ front ++ rest)

-- the first of the three with which the text begins is the whole of it, or it begins with none
abbrev pub IsMediaKindText : List ℕ → MediaType → Type 0
IsMediaKindText text Audio = text ≡ AUDIO.now
IsMediaKindText text Video = text ≡ VIDEO.now
IsMediaKindText text Application = text ≡ APPLICATION.now
IsMediaKindText text (Unknown name) = (text ≡ name) × IsRest text
    × (TextBegins AUDIO.now text → ⊥) × (TextBegins VIDEO.now text → ⊥) × (TextBegins APPLICATION.now text → ⊥)

abbrev pub IsProto : List ℕ → Proto → Type 0
IsProto text Srtp = text ≡ SRTP.now
IsProto text Sctp = (text ≡ OLD_SCTP.now) ⊎ (text ≡ SCTP.now)

-- any other text that doesn't begin with a space is read as no types
abbrev pub NoTypes : List ℕ → List ℕ → Type 0
NoTypes text pts = (pts ≡ []) × (TextBegins (codes " ") text → ⊥)

-- what an m-line says
pub record Head : Type 0 where
  pub typ : MediaType
  pub disabled : Bool
  pub proto : Proto
  pub pts : List ℕ

-- `m=` kind SP port SP protocol SP types, which are numbers parted by one space each; the port `0` means disabled (RFC 8866, section 5.14)
pub record IsHead (content : List ℕ) (head : Head) : Type 0 where
  pub kind : List ℕ
  pub port : List ℕ
  pub protocol : List ℕ
  pub types : List ℕ
  pub joined : content ≡ codes "m=" ++ (kind ++ (codes " " ++ (port ++ (codes " " ++ (protocol ++ (codes " " ++ types))))))
  pub kind_is : IsWord kind × IsMediaKindText kind head.typ
  pub port_is : IsWord port × (IsTrue head.disabled ↔ (port ≡ codes "0"))
  pub protocol_is : IsWord protocol × IsProto protocol head.proto
  pub types_are : FirstFit (PartedAddress 32 (IsNum 255)) NoTypes types head.pts

-- a section: its m-line, then a `c=` line and a `b=` line, each taken where it stands next, and the run of attribute lines
pub record IsSection (lines : List Line) (m : MediaLine) (rest : List Line) : Type 0 where
  pub after_head : List Line
  pub after_connection : List Line
  pub after_bandwidth : List Line
  pub connection : Option (List ℕ)
  pub head_is : OneLine IsHead lines (record { typ = m.typ; disabled = m.disabled; proto = m.proto; pts = m.pts }) after_head
  pub connection_is : TakenLine (OneLine (IsSessionField (codes "c="))) after_head connection after_connection
  pub bandwidth_is : TakenLine (OneLine IsBandwidth) after_connection m.bw after_bandwidth
  pub attributes_are : Run (OneLine IsMediaLine) after_bandwidth m.attrs rest
