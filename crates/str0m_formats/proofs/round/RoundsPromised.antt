-- Every round keeps its promises.
use Rattle.str0m_formats.proofs.Common.{arith, rules, ◌≡◌, ◌≢◌, Bool, List, Ok, Err, OnOk, OnErr, IfErr, on_ok_weaker, on_err_weaker}
use Rattle.str0m_formats.proofs.round.NarrowingLevels.{levels_narrow}
use Rattle.str0m_formats.proofs.round.NarrowingTelephone.{telephone_narrows}
use Rattle.str0m_formats.proofs.round.RoundsCounting.{round_never_exhausted}
use Rattle.str0m_formats.proofs.round.RoundsDistinct.{distinct_stay}
use Rattle.str0m_formats.proofs.round.RoundsInvariants.{locked_alone}
use Rattle.str0m_formats.proofs.round.RoundsLocked.{locked_stay}
use Rattle.str0m_formats.proofs.round.RoundsMatched.{matched_are_locked, locked_at_best}
use Rattle.str0m_formats.proofs.round.RoundsMemory.{only_for_memory}
use Rattle.str0m_formats.proofs.round.RoundsOutcome.{round_leaves_only, round_refused_only}
use Rattle.str0m_formats.proofs.round.RoundsPlain.{plain_stay}
use Rattle.str0m_formats.proofs.round.RoundsRunSteps.{rounds_ran_from}
use Rattle.str0m_formats.specs.declared.round.negotiation_error.NegotiationError.{NegotiationError}
use Rattle.str0m_formats.specs.declared.round.negotiation_error.NegotiationError.TheVariants.{Memory}
use Rattle.str0m_formats.specs.declared.row.codec_config.CodecConfig.{CodecConfig}
use Rattle.str0m_formats.specs.declared.row.payload_params.PayloadParams.{PayloadParams}
use Rattle.str0m_formats.specs.round.Rounds.{RoundLeaves, RoundRefused}
use Rattle.str0m_formats.specs.round.RoundsPromises.{RoundPromises, Negotiates}
use Rattle.str0m_formats.specs.round.RoundsRuns.{OutcomeOfRound}

pub round_promised : (before remote : List PayloadParams) (receives : Bool) (after : List PayloadParams)
    → RoundLeaves before remote receives after
    → RoundPromises before remote receives after
round_promised before remote receives after r =
    search (
      rules,
      locked_alone,
      locked_stay,
      matched_are_locked,
      locked_at_best,
      distinct_stay,
      telephone_narrows,
      levels_narrow,
      plain_stay,
    )

-- ---- what one call answers

negotiated_round : (remote : List PayloadParams) (receives : Bool) (old new : CodecConfig) (result : OutcomeOfRound)
    → OnOk result (RoundLeaves old.params.items remote receives new.params.items)
    → IfErr result (λ cause. cause ≢ Memory → RoundRefused old.params.items remote receives cause)
    → new ≡ record old { params = new.params }
    → OnErr result (new ≡ old)
    → Negotiates remote receives old new result
negotiated_round remote receives old new result ok cause same err =
    grind (
      arith,
      on_ok_weaker,
      round_leaves_only,
      round_refused_only,
      round_never_exhausted,
      only_for_memory,
      round_promised,
      rounds_ran_from,
      on_err_weaker,
    )

pub leaves_round : (remote : List PayloadParams) (receives : Bool) (old new : CodecConfig)
    → RoundLeaves old.params.items remote receives new.params.items → new ≡ record old { params = new.params }
    → Negotiates remote receives old new (Ok tt)
leaves_round remote receives old new leaves same = negotiated_round remote receives old new (Ok tt) leaves tt same tt

pub refused_round : (remote : List PayloadParams) (receives : Bool) (config : CodecConfig) (result : OutcomeOfRound)
    (cause : NegotiationError)
    → result ≡ Err cause → (cause ≢ Memory → RoundRefused config.params.items remote receives cause)
    → Negotiates remote receives config config result
refused_round remote receives config result cause is refused =
    grind (arith, negotiated_round remote receives config config (Err cause) tt refused)
