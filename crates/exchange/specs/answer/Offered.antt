-- Offers that are read whole, and their rounds.
use Rattle.exchange.specs.Prelude.{IsReading, Line, Lines, MediaLine, OutcomeOfRound, PayloadParams, RunReached, Reading, ReaderRefuses, RoundsRunPromises, Sdp, is_media, rows, section_direction}
use Rattle.exchange.specs.declared.state.exchange_error.ExchangeError.{ExchangeError}
use Rattle.exchange.specs.declared.state.exchange_error.ExchangeError.TheVariants.{NotRead, Unread, WrongState, DoesNotFit, NoRows, NoChannels, NoName, NotPrintable, Memory}
use Rattle.exchange.specs.section.Stopped.{IsStopped}
use Rattle.std.specs.Prelude.{◌≡◌, ◌≢◌, ◌⊎◌, ◌+◌, ◌++◌, ℕ, true, List, [], ◌∷◌, length}
use Rattle.str0m_formats.specs.declared.round.rounds.Round.{Round}
use Rattle.str0m_sdp.specs.declared.attribute.proto.Proto.TheVariants.{Srtp}

-- the text is this description, and nothing follows it
abbrev pub IsOffer : List ℕ → Sdp → Type 0
IsOffer text offer = Reading text (offer, [])

-- some lines follow those of the description that the text begins with, and the first of them has this number, counted from 1
pub record IsOfferedCutShort (text : List ℕ) (line : ℕ) : Type 0 where
  pub offer : Sdp
  pub read : List Line
  pub unread : List Line
  pub lines_are : Lines text (read ++ unread)
  pub reading : IsReading (read ++ unread) offer unread
  pub some : unread ≢ []
  pub number : line ≡ length read + 1

-- why a text is no offer: it describes no session, or more follows
abbrev pub RefusesOfferedText : List ℕ → ExchangeError → Type 0
RefusesOfferedText text (NotRead cause) = ReaderRefuses cause (Reading text)
RefusesOfferedText text (Unread line content) = IsOfferedCutShort text line
RefusesOfferedText text (WrongState state) = ⊥
RefusesOfferedText text (DoesNotFit section broken) = ⊥
RefusesOfferedText text NoRows = ⊥
RefusesOfferedText text NoChannels = ⊥
RefusesOfferedText text NoName = ⊥
RefusesOfferedText text NotPrintable = ⊥
RefusesOfferedText text Memory = Unit {0}

-- a section of media over RTP that isn't stopped brings a round (RFC 3264, sections 6.1 and 8.2)
pub record BringsRound (offer : Sdp) (m : MediaLine) : Type 0 where
  pub runs : IsStopped offer m → ⊥
  pub media : is_media m.typ ≡ true
  pub over : m.proto ≡ Srtp

-- with the rows and the direction that the section describes
abbrev pub IsRoundOf : MediaLine → Round → Type 0
IsRoundOf m round = (round.remote.items ≡ rows m) × (round.direction ≡ section_direction m.attrs)

-- one round for each section that brings one, in order
abbrev pub AreOfferRounds : Sdp → List MediaLine → List Round → Type 0
AreOfferRounds offer [] rounds = rounds ≡ []
AreOfferRounds offer (m ∷ ms) rounds =
    ((BringsRound offer m → ⊥) × AreOfferRounds offer ms rounds)
    ⊎ (BringsRound offer m × (round : Round) × (more : List Round) × (rounds ≡ round ∷ more) × IsRoundOf m round × AreOfferRounds offer ms more)

-- the rounds of an offer lead from the rows before them to the rows after them
pub record NegotiatesOffer (offer : Sdp) (before after : List PayloadParams) : Type 0 where
  pub rounds : List Round
  pub rounds_are : AreOfferRounds offer offer.media_lines rounds
  pub outcomes : List OutcomeOfRound
  pub reached : RunReached before rounds outcomes after
  pub promises : RoundsRunPromises before rounds outcomes after
