-- What every accepted round promises, read off the rows before it, the remote rows and the rows after it alone.
use Rattle.std.specs.Prelude.{◌≡◌, ◌≢◌, ◌≤◌, ℕ, Bool, true, false, Option, Some, None, Ok, Err, OnOk, OnErr, IfErr, List, ◌++◌, length, slice_get, Contains, All}
use Rattle.str0m_formats.specs.Prelude.{H264ProfileLevel, level_ordinal, named, receives}
use Rattle.str0m_formats.specs.declared.codec.Codec.TheVariants.{AmrWb, H264, Tele}
use Rattle.str0m_formats.specs.declared.round.negotiation_error.NegotiationError.TheVariants.{Exhausted, Memory}
use Rattle.str0m_formats.specs.declared.round.rounds.Round.{Round}
use Rattle.str0m_formats.specs.declared.row.codec_config.CodecConfig.{CodecConfig}
use Rattle.str0m_formats.specs.declared.row.payload_params.PayloadParams.{PayloadParams}
use Rattle.str0m_formats.specs.round.Choices.{IsBestChoice}
use Rattle.str0m_formats.specs.round.Claimed.{has, type_times, AllTypesDistinct}
use Rattle.str0m_formats.specs.round.MatchScore.{score}
use Rattle.str0m_formats.specs.round.Narrowing.{telephone_max}
use Rattle.str0m_formats.specs.round.Rounds.{RoundLeaves, RoundRefused, RoundLeavesOnly, RoundRefusedOnly}
use Rattle.str0m_formats.specs.round.RoundsRuns.{OutcomeOfRound, RunReached, AtEachOkRound}
use Rattle.str0m_formats.specs.row.PayloadParams.{types, locked_types, AllTypesSmall}
use Rattle.str0m_formats.specs.row.PlainRow.{IsPlain}
use Rattle.str0m_formats.specs.row.PlainRowBounds.{IsBounded}

-- each row has its place in both lists: what holds of the row before and the row after, at each place
abbrev pub AtEachRow : (PayloadParams → PayloadParams → Type 0) → List PayloadParams → List PayloadParams → Type 0
AtEachRow holds before after =
    (i : ℕ) (old new : PayloadParams) → slice_get before i ≡ Some old → slice_get after i ≡ Some new → holds old new

-- each type of a locked row stands in one role alone, of all roles of all rows
abbrev pub LockedStandAlone : List PayloadParams → Type 0
LockedStandAlone rows = (t : ℕ) → has (locked_types rows) t ≡ true → type_times (types rows) t ≡ 1

-- a locked row is locked still, and each of its types is what it was
pub record StaysLocked (old new : PayloadParams) : Type 0 where
  pub locked : new.locked ≡ true
  pub primary : new.pt ≡ old.pt
  pub resend : new.resend ≡ old.resend
  pub red : new.red ≡ old.red

abbrev pub LockedStay : List PayloadParams → List PayloadParams → Type 0
LockedStay = AtEachRow (λ old new. old.locked ≡ true → StaysLocked old new)

-- some remote row has a score for the row
abbrev pub IsMatched : List PayloadParams → PayloadParams → Type 0
IsMatched remote row = (theirs : PayloadParams) × Contains remote theirs × (score row.spec theirs.spec ≢ None)

-- each row that some remote row matches is locked, but for AMR-WB where the remote receives
abbrev pub MatchedAreLocked : List PayloadParams → Bool → List PayloadParams → List PayloadParams → Type 0
MatchedAreLocked remote receives = AtEachRow (λ old new.
    IsMatched remote old → (receives ≡ true → old.spec.codec ≡ AmrWb → old.locked ≡ true) → new.locked ≡ true)

-- the row has the primary and RTX types of a remote row
abbrev pub HasTypesOf : PayloadParams → PayloadParams → Type 0
HasTypesOf row theirs = (row.pt ≡ theirs.pt) × (row.resend ≡ theirs.resend)

-- where the remote receives, a newly locked row has the types of the last remote row of greatest score; one of AMR-WB
-- those of a remote row that matches it
abbrev pub LockedAtBest : List PayloadParams → List PayloadParams → List PayloadParams → Type 0
LockedAtBest remote = AtEachRow (λ old new. old.locked ≡ false → new.locked ≡ true →
    (best : PayloadParams) × HasTypesOf new best × Contains remote best × (score old.spec best.spec ≢ None)
    × (old.spec.codec ≢ AmrWb → IsBestChoice (λ theirs. score old.spec theirs.spec) remote best))

-- a telephone row stays one, and its maximum doesn't grow
abbrev pub TelephoneNarrows : List PayloadParams → List PayloadParams → Type 0
TelephoneNarrows = AtEachRow (λ old new. old.spec.codec ≡ Tele
    → (new.spec.codec ≡ Tele) × (telephone_max new.spec.format ≤ telephone_max old.spec.format))

-- the id names a level that is no higher, and is of the same profile
pub record NamesNoHigher (had : H264ProfileLevel) (id : Option ℕ) : Type 0 where
  pub level : H264ProfileLevel
  pub named_so : named id ≡ Some level
  pub profile : level.profile ≡ had.profile
  pub no_higher : level_ordinal level.level ≤ level_ordinal had.level

-- an H264 row stays one, and where it names a level it does so after, of the same profile, and the level doesn't grow
abbrev pub LevelsNarrow : List PayloadParams → List PayloadParams → Type 0
LevelsNarrow = AtEachRow (λ old new. old.spec.codec ≡ H264
    → (had : H264ProfileLevel) → named old.spec.format.profile_level_id ≡ Some had
    → (new.spec.codec ≡ H264) × NamesNoHigher had new.spec.format.profile_level_id)

-- what an accepted round promises
pub record RoundPromises (before remote : List PayloadParams) (receives : Bool) (after : List PayloadParams) : Type 0 where
  pub leaves : RoundLeaves before remote receives after
  pub rows : length after ≡ length before
  pub alone : LockedStandAlone after
  pub stay : LockedStay before after
  pub matched : MatchedAreLocked remote receives before after
  pub best : receives ≡ true → LockedAtBest remote before after
  pub distinct : AllTypesDistinct (types before) → AllTypesDistinct (types after)
  pub telephone : TelephoneNarrows before after
  pub levels : LevelsNarrow before after
  -- against rows whose numbers keep to their ranges
  pub plain : All IsPlain before → All IsBounded remote → All IsPlain after

-- types on both sides have seven bits, and no two locked rows share one
abbrev pub KeepsRowBounds : List PayloadParams → List PayloadParams → Type 0
KeepsRowBounds rows remote = AllTypesSmall (types rows ++ types remote) × AllTypesDistinct (locked_types rows)

-- a round is accepted, or refused for memory alone
abbrev pub RoundFailsOnlyForMemory : OutcomeOfRound → Type 0
RoundFailsOnlyForMemory (Ok done) = Unit {0}
RoundFailsOnlyForMemory (Err cause) = cause ≡ Memory

-- what a call does that runs one round
pub record Negotiates (remote : List PayloadParams) (receives : Bool) (old new : CodecConfig) (result : OutcomeOfRound) : Type 0 where
  pub ok : OnOk result (RoundLeaves old.params.items remote receives new.params.items)
  pub cause : IfErr result (λ cause. cause ≢ Memory → RoundRefused old.params.items remote receives cause)
  -- there is one outcome: these rows alone and no cause, or this cause alone and no rows
  pub alone : OnOk result (RoundLeavesOnly old.params.items remote receives new.params.items)
  pub one_cause : IfErr result (λ cause. cause ≢ Memory → RoundRefusedOnly old.params.items remote receives cause)
  pub room : length old.params.items ≤ 14 → result ≢ Err Exhausted
  -- where few rows with types of seven bits meet a side that demands nothing, it can only be out of memory
  pub bounded : length old.params.items ≤ 14 → KeepsRowBounds old.params.items remote → receives ≡ false → RoundFailsOnlyForMemory result
  -- what holds of the rows before, the remote rows and the rows after alone
  pub promises : OnOk result (RoundPromises old.params.items remote receives new.params.items)
  pub else_same : new ≡ record old { params = new.params }
  pub err : OnErr result (new ≡ old)

-- what a run of rounds promises: at each accepted round, and from its first rows to its last
pub record RoundsRunPromises (before : List PayloadParams) (rounds : List Round) (outcomes : List OutcomeOfRound) (after : List PayloadParams) : Type 0 where
  pub each : AtEachOkRound RoundPromises before rounds outcomes after
  pub rows : length after ≡ length before
  pub stay : LockedStay before after
  pub distinct : AllTypesDistinct (types before) → AllTypesDistinct (types after)
  pub telephone : TelephoneNarrows before after
  pub levels : LevelsNarrow before after
  -- where the remote rows of every round keep to their ranges
  pub plain : All IsPlain before → All (λ round. All IsBounded round.remote.items) rounds → All IsPlain after
  -- fourteen rows never exhaust the types that may be given
  pub room : length before ≤ 14 → All (λ outcome. outcome ≢ Err Exhausted) outcomes
  -- and where besides no other side receives, and types have seven bits, it can only be out of memory
  pub bounded : length before ≤ 14 → AllTypesSmall (types before) → AllTypesDistinct (locked_types before)
      → All (λ round. AllTypesSmall (types round.remote.items)) rounds → All (λ round. receives round.direction ≡ false) rounds
      → All RoundFailsOnlyForMemory outcomes

-- every run that begins with these rows, of whatever rounds and with whatever outcomes, keeps its promises
abbrev pub EveryRoundsRunPromises : List PayloadParams → Type 0
EveryRoundsRunPromises before = (rounds : List Round) (outcomes : List OutcomeOfRound) (after : List PayloadParams)
    → RunReached before rounds outcomes after → RoundsRunPromises before rounds outcomes after
