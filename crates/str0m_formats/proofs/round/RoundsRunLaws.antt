-- What holds over every list of rounds.
use Rattle.str0m_formats.proofs.Common.{rules, ◌≡◌, ◌≢◌, ◌≤◌, Bool, true, false, List, [], ◌∷◌, length, Ok, Err, refl, sym, ◌∙◌, subst}
use Rattle.str0m_formats.proofs.Common.{arith, same_Some, All-nil, All-cons, All-head, All-tail, receives, All}
use Rattle.str0m_formats.proofs.round.NarrowingLevels.{NarrowsLevels, narrows_levels-same, narrows_levels-then}
use Rattle.str0m_formats.proofs.round.NarrowingTelephone.{Narrows, narrows-same, narrows-then}
use Rattle.str0m_formats.proofs.round.RoundsCounting.{round_never_exhausted}
use Rattle.str0m_formats.proofs.round.RoundsLocked.{locked-stays-same, locked-stays-then}
use Rattle.str0m_formats.proofs.round.RoundsMemory.{only_for_memory}
use Rattle.str0m_formats.proofs.round.RoundsPromised.{round_promised}
use Rattle.str0m_formats.proofs.round.RoundsSmallTypes.{small-append, type_bounds_kept}
use Rattle.str0m_formats.proofs.round.RoundsWhole.{row_before}
use Rattle.str0m_formats.specs.declared.round.negotiation_error.NegotiationError.{NegotiationError}
use Rattle.str0m_formats.specs.declared.round.negotiation_error.NegotiationError.TheVariants.{Exhausted}
use Rattle.str0m_formats.specs.declared.round.rounds.Round.{Round}
use Rattle.str0m_formats.specs.declared.row.payload_params.PayloadParams.{PayloadParams}
use Rattle.str0m_formats.specs.round.Claimed.{AllTypesDistinct}
use Rattle.str0m_formats.specs.round.Rounds.{RoundLeaves}
use Rattle.str0m_formats.specs.round.RoundsPromises.{AtEachRow, StaysLocked, RoundPromises, RoundFailsOnlyForMemory, RoundsRunPromises}
use Rattle.str0m_formats.specs.round.RoundsRuns.{OutcomeOfRound, RoundRan, RunReached, AtEachOkRound}
use Rattle.str0m_formats.specs.row.PayloadParams.{AllTypesSmall, types, locked_types}
use Rattle.str0m_formats.specs.row.PlainRow.{IsPlain}
use Rattle.str0m_formats.specs.row.PlainRowBounds.{IsBounded}

-- ---- one round after another

-- a refused round changes no row
refused_round_unchanged : (before remote : List PayloadParams) (dir : Bool) (cause : NegotiationError) (after : List PayloadParams)
    → RoundRan before remote dir (Err cause) after → after ≡ before
refused_round_unchanged before remote dir cause after ran = grind arith

-- each accepted round of a list keeps its promises
pub promised_each_round : (before : List PayloadParams) (rounds : List Round) (outcomes : List OutcomeOfRound) (after : List PayloadParams)
    → RunReached before rounds outcomes after → AtEachOkRound RoundPromises before rounds outcomes after
promised_each_round before [] [] after h = h
promised_each_round before [] (o ∷ outcomes) after h = h
promised_each_round before (round ∷ rounds) [] after h = h
promised_each_round before (round ∷ rounds) (Ok done ∷ outcomes) after h = search
    (rules, round_promised, promised_each_round h.0 rounds outcomes after h.2)
promised_each_round before (round ∷ rounds) (Err cause ∷ outcomes) after h = grind
    (arith, refused_round_unchanged, promised_each_round h.0 rounds outcomes after h.2)

-- what holds of no rounds and of each accepted one that brings what it may, and goes on from one to the next, holds over a list of them
runs_along : (Holds : List PayloadParams → List PayloadParams → Type 0) (May : Round → Type 0)
    → ((rows : List PayloadParams) → Holds rows rows)
    → ((a b c : List PayloadParams) → Holds a b → Holds b c → Holds a c)
    → ((a : List PayloadParams) (round : Round) (b : List PayloadParams) → May round
    → RoundPromises a round.remote.items (receives round.direction) b → Holds a b)
    → (before : List PayloadParams) (rounds : List Round) (outcomes : List OutcomeOfRound) (after : List PayloadParams)
    → RunReached before rounds outcomes after → All May rounds → Holds before after
runs_along Holds May same next one before rounds outcomes after reached = go before rounds outcomes after
    (promised_each_round before rounds outcomes after reached) where
      go : (rows : List PayloadParams) (rounds : List Round) (outcomes : List OutcomeOfRound) (end : List PayloadParams)
          → AtEachOkRound RoundPromises rows rounds outcomes end → All May rounds → Holds rows end
      go rows [] [] end h may = subst (Holds rows) (sym h) (same rows)
      go rows [] (o ∷ outcomes) end h may = absurd h
      go rows (round ∷ rounds) [] end h may = absurd h
      go rows (round ∷ rounds) (Ok done ∷ outcomes) end h may =
          next rows h.0 end (one rows round h.0 (All-head May round rounds may) h.1)
          (go h.0 rounds outcomes end h.2 (All-tail May round rounds may))
      go rows (round ∷ rounds) (Err cause ∷ outcomes) end h may = go rows rounds outcomes end h (All-tail May round rounds may)

-- whatever a round brings
abbrev WhateverRoundRan : Round → Type 0
WhateverRoundRan round = Unit {0}

-- ---- what holds at each place

-- there are as many rows, and each stands to the one at its place before
abbrev AreInPlaceAfterRounds : (PayloadParams → PayloadParams → Type 0) → List PayloadParams → List PayloadParams → Type 0
AreInPlaceAfterRounds holds before after = (length after ≡ length before) × AtEachRow holds before after

module _ (holds : PayloadParams → PayloadParams → Type 0) where
  rounds_in_place-same : ((row : PayloadParams) → holds row row) → (rows : List PayloadParams) → AreInPlaceAfterRounds holds rows rows
  rounds_in_place-same same rows = (refl, λ i old new at_old at_new. subst (holds old) (same_Some old new (sym at_old ∙ at_new)) (same old))

  rounds_in_place-next : ((a b c : PayloadParams) → holds a b → holds b c → holds a c) → (a b c : List PayloadParams)
      → AreInPlaceAfterRounds holds a b
      → AreInPlaceAfterRounds holds b c → AreInPlaceAfterRounds holds a c
  rounds_in_place-next next a b c first second = (
    second.0 ∙ first.0,
    λ i old new at_old at_new.
        let mid = row_before b c i new second.0 at_new in
        next old mid.0 new (first.1 i old mid.0 at_old mid.1) (second.1 i mid.0 new mid.1 at_new),
  )

-- ---- why rounds are refused

-- what each round tells of its outcome, by what holds of the rows before it and after it
each_round_outcome : (Holds : List PayloadParams → Type 0) (May : Round → Type 0) (Tells : OutcomeOfRound → Type 0)
    → ((before : List PayloadParams) (round : Round) (outcome : OutcomeOfRound) (after : List PayloadParams) → Holds before → May round
    → RoundRan before round.remote.items (receives round.direction) outcome after → Tells outcome)
    → ((before : List PayloadParams) (round : Round) (after : List PayloadParams)
    → RoundLeaves before round.remote.items (receives round.direction) after → Holds before → Holds after)
    → (before : List PayloadParams) (rounds : List Round) (outcomes : List OutcomeOfRound) (after : List PayloadParams)
    → RunReached before rounds outcomes after → Holds before → All May rounds → All Tells outcomes
each_round_outcome Holds May Tells tells keeps before rounds [] after h held may = All-nil Tells
each_round_outcome Holds May Tells tells keeps before [] (o ∷ outcomes) after h held may = absurd h
each_round_outcome Holds May Tells tells keeps before (round ∷ rounds) (outcome ∷ outcomes) after h held may =
    All-cons Tells outcome outcomes (tells before round outcome h.0 held (All-head May round rounds may) h.1)
    (each_round_outcome Holds May Tells tells keeps h.0 rounds outcomes after h.2 (on outcome h.1) (All-tail May round rounds may)) where
      on : (o : OutcomeOfRound) → RoundRan before round.remote.items (receives round.direction) o h.0 → Holds h.0
      on (Ok done) ran = keeps before round h.0 ran held
      on (Err cause) ran = subst Holds (sym (refused_round_unchanged before round.remote.items (receives round.direction) cause h.0 ran))
          held

run_as_few : (before remote : List PayloadParams) (dir : Bool) (after : List PayloadParams) → RoundLeaves before remote dir after
    → length before ≤ 14 → length after ≤ 14
run_as_few before remote dir after r few = omega (arith, few, r.whole, r.first.whole)

-- with at most fourteen rows no round is refused for want of a type
pub run_never_exhausted : (before : List PayloadParams) (rounds : List Round) (outcomes : List OutcomeOfRound) (after : List PayloadParams)
    → RunReached before rounds outcomes after → length before ≤ 14 → All (λ outcome. outcome ≢ Err Exhausted) outcomes
run_never_exhausted before rounds outcomes after h few =
    each_round_outcome (λ rows. length rows ≤ 14) WhateverRoundRan (λ outcome. outcome ≢ Err Exhausted) not_exhausted
    (λ now round next r. run_as_few now round.remote.items (receives round.direction) next r) before rounds outcomes after h few
    (λ k d lt. tt)
  where
    not_exhausted : (now : List PayloadParams) (round : Round) (outcome : OutcomeOfRound) (next : List PayloadParams) → length now ≤ 14
        → Unit {0} → RoundRan now round.remote.items (receives round.direction) outcome next → outcome ≢ Err Exhausted
    not_exhausted now round outcome next few may ran e =
        let At : OutcomeOfRound → Type 0 = λ o. RoundRan now round.remote.items (receives round.direction) o next in
        round_never_exhausted now round.remote.items (receives round.direction) few (subst At e ran).0

-- if also types on both sides have seven bits, no two locked rows share one, and no remote receives, then each round that
-- is refused is refused for memory alone
pub run_only_for_memory : (before : List PayloadParams) (rounds : List Round) (outcomes : List OutcomeOfRound) (after : List PayloadParams)
    → RunReached before rounds outcomes after
    → length before ≤ 14 → AllTypesSmall (types before) → AllTypesDistinct (locked_types before)
    → All (λ round. AllTypesSmall (types round.remote.items)) rounds → All (λ round. receives round.direction ≡ false) rounds
    → All RoundFailsOnlyForMemory outcomes
run_only_for_memory before rounds outcomes after h few small distinct remotes directions =
    each_round_outcome Bounded May RoundFailsOnlyForMemory
    (λ now round outcome next b may ran. only_for_memory now round.remote.items (receives round.direction) outcome next b.0
    (small-append (types now) (types round.remote.items) b.1 may.0, b.2) may.1 ran)
    (λ now round next r b. let kept = type_bounds_kept now round.remote.items (receives round.direction) next r in
    (run_as_few now round.remote.items (receives round.direction) next r b.0, kept.0, kept.1))
    before rounds outcomes after h (few, small, distinct) (λ k d lt. (remotes k d lt, directions k d lt)) where
      Bounded : List PayloadParams → Type 0
      Bounded rows = (length rows ≤ 14) × AllTypesSmall (types rows) × AllTypesDistinct (locked_types rows)

      May : Round → Type 0
      May round = AllTypesSmall (types round.remote.items) × (receives round.direction ≡ false)

-- ---- all of it

pub run_promised : (before : List PayloadParams) (rounds : List Round) (outcomes : List OutcomeOfRound) (after : List PayloadParams)
    → RunReached before rounds outcomes after → RoundsRunPromises before rounds outcomes after
run_promised before rounds outcomes after r = record {
  each = promised_each_round before rounds outcomes after r;
  rows = over (λ a b. length b ≡ length a) (λ rows. refl) (λ a b c first second. second ∙ first) (λ a round b p. p.rows);
  stay = in_places (λ old new. old.locked ≡ true → StaysLocked old new) locked-stays-same locked-stays-then (λ a round b p. p.stay);
  distinct = over (λ a b. AllTypesDistinct (types a) → AllTypesDistinct (types b)) (λ rows d. d) (λ a b c first second d. second (first d))
      (λ a round b p. p.distinct);
  telephone = in_places (λ old new. Narrows old.spec new.spec) (λ row. narrows-same row.spec) (λ a b c. narrows-then a.spec b.spec c.spec)
      (λ a round b p. p.telephone);
  levels = in_places (λ old new. NarrowsLevels old.spec new.spec) (λ row. narrows_levels-same row.spec)
      (λ a b c. narrows_levels-then a.spec b.spec c.spec)
      (λ a round b p. p.levels);
  plain = λ plain bounded.
      runs_along (λ a b. All IsPlain a → All IsPlain b) (λ round. All IsBounded round.remote.items) (λ rows p. p)
      (λ a b c first second p. second (first p)) (λ a round b may promises p. promises.plain p may)
      before rounds outcomes after r bounded plain;
  room = run_never_exhausted before rounds outcomes after r;
  bounded = run_only_for_memory before rounds outcomes after r;
}
  where
    over : (Holds : List PayloadParams → List PayloadParams → Type 0) → ((rows : List PayloadParams) → Holds rows rows)
        → ((a b c : List PayloadParams) → Holds a b → Holds b c → Holds a c)
        → ((a : List PayloadParams) (round : Round) (b : List PayloadParams)
        → RoundPromises a round.remote.items (receives round.direction) b
        → Holds a b) → Holds before after
    over Holds same next one = runs_along Holds WhateverRoundRan same next (λ a round b _. one a round b) before rounds outcomes after r
        (λ k d lt. tt)

    in_places : (holds : PayloadParams → PayloadParams → Type 0) → ((row : PayloadParams) → holds row row)
        → ((a b c : PayloadParams) → holds a b → holds b c → holds a c)
        → ((a : List PayloadParams) (round : Round) (b : List PayloadParams)
        → RoundPromises a round.remote.items (receives round.direction) b
        → AtEachRow holds a b) → AtEachRow holds before after
    in_places holds same next one = (over (AreInPlaceAfterRounds holds) (rounds_in_place-same holds same) (rounds_in_place-next holds next)
        (λ a round b p. (p.rows, one a round b p))).1
