-- What this side says of itself, as C says it.
use Rattle.c_parts.specs.declared.fault.Fault.{Fault}
use Rattle.c_parts.specs.declared.fault.Fault.TheVariants.{NotUtf8, NoFingerprint, NoCandidate, Refused}
use Rattle.c_parts.specs.declared.side.OwnNumbers.{OwnNumbers}
use Rattle.c_parts.specs.declared.side.OwnTexts.{OwnTexts}
use Rattle.exchange.specs.declared.state.exchange_error.ExchangeError.TheVariants.{Memory}
use Rattle.exchange.specs.declared.state.own_side.DataChannels.{DataChannels}
use Rattle.exchange.specs.declared.state.own_side.OwnSide.{OwnSide}
use Rattle.exchange.specs.section.Trickled.{IsTrickled}
use Rattle.std.specs.Borrow.{Bor}
use Rattle.std.specs.List.{AllZip}
use Rattle.std.specs.Prelude.{◌≡◌, ℕ, Bool, not, List, [], Option, None, Some, All, map, nat_eq, if◌then◌else◌, IsUtf8}
use Rattle.str0m_values.specs.Fingerprint.{IsFingerprint}
use Rattle.str0m_values.specs.declared.candidate.Candidate.{Candidate}
use Rattle.str0m_values.specs.declared.direction.Direction.{Direction}
use Rattle.str0m_values.specs.declared.direction.Direction.TheVariants.{SendRecv, SendOnly, RecvOnly, Inactive}
use Rattle.str0m_values.specs.declared.fingerprint.Fingerprint.{Fingerprint}
use Rattle.str0m_values.specs.declared.media_kind.MediaKind.{MediaKind}
use Rattle.str0m_values.specs.declared.media_kind.MediaKind.TheVariants.{Audio, Video}

-- the direction of a number (`zax_direction`)
abbrev pub side_direction_numbered : ℕ → Direction
side_direction_numbered n = if nat_eq n 0 then SendRecv else (if nat_eq n 1 then SendOnly else (if nat_eq n 2 then RecvOnly else Inactive))

-- the kind of media of a number (`zax_kind`)
abbrev pub side_kind_numbered : ℕ → MediaKind
side_kind_numbered n = if nat_eq n 0 then Audio else Video

-- 0 is no, and all else is yes
abbrev pub is_side_flag_on : ℕ → Bool
is_side_flag_on n = not (nat_eq n 0)

-- where data channels are reached, where there are some
abbrev pub own_channels_of : OwnNumbers → Option DataChannels
own_channels_of numbers =
    if is_side_flag_on numbers.has_channels then Some (record { port = numbers.sctp_port; max_message_size = numbers.max_message_size }) else None

-- the texts of a list
abbrev pub listed_texts : List (Bor (List ℕ)) → List (List ℕ)
listed_texts texts = map (λ text. text.now) texts

-- the texts that a call takes one by one
abbrev pub own_texts : (ice_ufrag ice_pwd fingerprint stream_id : Bor (List ℕ)) (extensions candidates : Bor (List (Bor (List ℕ))))
    → OwnTexts
own_texts ice_ufrag ice_pwd fingerprint stream_id extensions candidates = record {
  ice_ufrag = ice_ufrag;
  ice_pwd = ice_pwd;
  fingerprint = fingerprint;
  stream_id = stream_id;
  extensions = extensions;
  candidates = candidates;
}

-- it says what the numbers and the texts say
pub record SaysOwnSide (numbers : OwnNumbers) (texts : OwnTexts) (own : OwnSide) : Type 0 where
  pub session_id : own.session_id ≡ numbers.session_id
  pub ufrag : own.creds.ufrag ≡ texts.ice_ufrag.now
  pub pwd : own.creds.pass ≡ texts.ice_pwd.now
  pub fingerprint : IsFingerprint texts.fingerprint.now own.fingerprint
  pub audio : own.audio ≡ side_direction_numbered numbers.audio
  pub video : own.video ≡ side_direction_numbered numbers.video
  pub directions : own.directions ≡ []
  pub stream_id : own.stream_id ≡ texts.stream_id.now
  pub extensions : own.extensions ≡ listed_texts texts.extensions.now
  pub candidates : AllZip IsTrickled (listed_texts texts.candidates.now) own.candidates
  pub channels : own.channels ≡ own_channels_of numbers
  pub receives_simulcast : own.receives_simulcast ≡ is_side_flag_on numbers.receives_simulcast

-- all of the texts are UTF-8
pub record AreSideTextsUtf8 (texts : OwnTexts) : Type 0 where
  pub ufrag : IsUtf8 texts.ice_ufrag.now
  pub pwd : IsUtf8 texts.ice_pwd.now
  pub fingerprint : IsUtf8 texts.fingerprint.now
  pub stream_id : IsUtf8 texts.stream_id.now
  pub extensions : All IsUtf8 (listed_texts texts.extensions.now)
  pub candidates : All IsUtf8 (listed_texts texts.candidates.now)

-- why one of two texts isn't taken
abbrev pub RefusesSidePair : List ℕ → List ℕ → Fault → Type 0
RefusesSidePair text other NotUtf8 = IsUtf8 text → IsUtf8 other → ⊥
RefusesSidePair text other (Refused error) = error ≡ Memory
RefusesSidePair text other _ = ⊥

-- why a list of texts isn't
abbrev pub RefusesSideList : List (List ℕ) → Fault → Type 0
RefusesSideList texts NotUtf8 = All IsUtf8 texts → ⊥
RefusesSideList texts (Refused error) = error ≡ Memory
RefusesSideList texts _ = ⊥

-- no candidates are what the lines say
abbrev pub AreNoSideCandidates : List (List ℕ) → Type 0
AreNoSideCandidates lines = (candidates : List Candidate) → AllZip IsTrickled lines candidates → ⊥

-- why a candidate isn't
abbrev pub RefusesSideCandidate : List ℕ → Fault → Type 0
RefusesSideCandidate line NotUtf8 = IsUtf8 line → ⊥
RefusesSideCandidate line NoCandidate = (candidate : Candidate) → IsTrickled line candidate → ⊥
RefusesSideCandidate line (Refused error) = error ≡ Memory
RefusesSideCandidate line NoFingerprint = ⊥

-- why a list of candidates isn't
abbrev pub RefusesSideCandidates : List (List ℕ) → Fault → Type 0
RefusesSideCandidates lines NotUtf8 = All IsUtf8 lines → ⊥
RefusesSideCandidates lines NoCandidate = AreNoSideCandidates lines
RefusesSideCandidates lines (Refused error) = error ≡ Memory
RefusesSideCandidates lines NoFingerprint = ⊥

-- why a fingerprint isn't
abbrev pub RefusesSideFingerprint : List ℕ → Fault → Type 0
RefusesSideFingerprint text NotUtf8 = IsUtf8 text → ⊥
RefusesSideFingerprint text NoFingerprint = (fingerprint : Fingerprint) → IsFingerprint text fingerprint → ⊥
RefusesSideFingerprint text (Refused error) = error ≡ Memory
RefusesSideFingerprint text NoCandidate = ⊥

-- why what this side says isn't
abbrev pub RefusesOwnSide : OwnTexts → Fault → Type 0
RefusesOwnSide texts NotUtf8 = AreSideTextsUtf8 texts → ⊥
RefusesOwnSide texts NoFingerprint = (fingerprint : Fingerprint) → IsFingerprint texts.fingerprint.now fingerprint → ⊥
RefusesOwnSide texts NoCandidate = AreNoSideCandidates (listed_texts texts.candidates.now)
RefusesOwnSide texts (Refused error) = error ≡ Memory
