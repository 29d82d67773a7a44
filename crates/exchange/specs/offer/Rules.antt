-- The rules that each section of an answer keeps, beside the section that it answers.
use Rattle.exchange.specs.Prelude.{AnswersDirection, AnswersSetupRole, MediaAttribute, MediaLine, MediaType, PayloadParams, Proto, Sdp, Setup, first, is_media, media_creds, media_fingerprint, media_setup, section_direction, types}
use Rattle.exchange.specs.answer.Accepted.{setup_in_force}
use Rattle.exchange.specs.answer.Rows.{answered_rows}
use Rattle.exchange.specs.declared.state.own_side.OwnSide.{OwnSide}
use Rattle.exchange.specs.section.Stopped.{IsStopped, name_of}
use Rattle.exchange.specs.state.OwnSide.{own_direction}
use Rattle.std.specs.Prelude.{◌≡◌, ◌≢◌, ◌↔◌, Bool, true, false, List, [], Some, None, All, Contains, filter_map}
use Rattle.str0m_sdp.specs.declared.attribute.MediaAttribute.TheVariants as media
use Rattle.str0m_sdp.specs.declared.attribute.media_type.MediaType.TheVariants.{Audio, Video, Application}
use Rattle.str0m_sdp.specs.declared.attribute.proto.Proto.TheVariants.{Srtp, Sctp}

-- the type, the protocol and the name of the offered one (RFC 3264, section 6; RFC 8829, section 5.3.1)
pub record HasOfferedShape (offered answered : MediaLine) : Type 0 where
  pub typ : answered.typ ≡ offered.typ
  pub proto : answered.proto ≡ offered.proto
  pub name : name_of answered ≡ name_of offered

-- this side has something for a section: a row for audio or video over RTP, or data channels over SCTP
abbrev pub HasAnswerFor : OwnSide → List PayloadParams → MediaType → Proto → Type 0
HasAnswerFor own rows Audio Srtp = rows ≢ []
HasAnswerFor own rows Video Srtp = rows ≢ []
HasAnswerFor own rows Application Sctp = own.channels ≢ None
HasAnswerFor own rows _ _ = ⊥

-- a section is accepted that isn't stopped, has a name, and that this side has something for (RFC 3264, sections 6 and 8.2)
pub record IsAcceptableByRules (own : OwnSide) (ours : List PayloadParams) (offer : Sdp) (offered : MediaLine) : Type 0 where
  pub runs : IsStopped offer offered → ⊥
  pub named_so : name_of offered ≢ None
  pub answerable : HasAnswerFor own (answered_rows ours offered) offered.typ offered.proto

-- accepted, by its port, exactly where it is acceptable
abbrev pub IsAcceptedExactlyByRules : OwnSide → List PayloadParams → Sdp → MediaLine → MediaLine → Type 0
IsAcceptedExactlyByRules own ours offer offered answered = (answered.disabled ≡ false) ↔ IsAcceptableByRules own ours offer offered

-- it says what its transport needs: this side's credentials (RFC 8839, section 5.4), its fingerprint (RFC 8122, section 5), and a
-- role that answers the one in force (RFC 8842, section 5.3)
pub record IsReachableByRules (own : OwnSide) (offer : Sdp) (offered answered : MediaLine) : Type 0 where
  pub creds : media_creds answered.attrs ≡ Some own.creds
  pub fingerprint : first (filter_map media_fingerprint answered.attrs) ≡ Some own.fingerprint
  pub role : Setup
  pub says_role : first (filter_map media_setup answered.attrs) ≡ Some role
  pub answers_role : AnswersSetupRole (setup_in_force offer offered) role

-- media flows where both sides are ready for it (RFC 3264, section 6.1)
abbrev pub FlowsByRules : OwnSide → MediaLine → MediaLine → Type 0
FlowsByRules own offered answered =
    AnswersDirection (section_direction offered.attrs) (own_direction own offered) (section_direction answered.attrs)

-- one port for RTP and RTCP (RFC 5761, section 5.1.1), RTCP of reduced size (RFC 5506, section 5), and header extensions (RFC
-- 8285, section 6) are said by an answer where the offer says them, with the same number and URI
abbrev pub needs_offer : MediaAttribute → Bool
needs_offer media.RtcpMux = true
needs_offer media.RtcpRsize = true
needs_offer (media.ExtMap id ext) = true
needs_offer _ = false

abbrev pub SaysOnlyOffered : MediaLine → MediaLine → Type 0
SaysOnlyOffered offered answered = All (λ line. needs_offer line ≡ true → Contains offered.attrs line) answered.attrs

-- the rules of an accepted section
pub record KeepsAcceptedRules (own : OwnSide) (ours : List PayloadParams) (offer : Sdp) (offered answered : MediaLine) : Type 0 where
  pub reachable : IsReachableByRules own offer offered answered
  pub flows : is_media offered.typ ≡ true → FlowsByRules own offered answered
  -- the rows that answer it stand in its m-line, in order, and there is one (RFC 3264, section 6.1)
  pub types_are : is_media offered.typ ≡ true → (answered.pts ≡ types (answered_rows ours offered)) × (answered_rows ours offered ≢ [])
  pub offered_so : SaysOnlyOffered offered answered

-- the rules of each section
pub record KeepsRules (own : OwnSide) (ours : List PayloadParams) (offer : Sdp) (offered answered : MediaLine) : Type 0 where
  pub shape : HasOfferedShape offered answered
  pub exactly : IsAcceptedExactlyByRules own ours offer offered answered
  pub accepted : answered.disabled ≡ false → KeepsAcceptedRules own ours offer offered answered
