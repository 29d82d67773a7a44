use Rattle.str0m_formats.proofs.Common.{Bool, ◌∙◌, subst, rules, nat_lt}
use Rattle.str0m_formats.proofs.round.FirstPass.{first_pass_IfErr_from, first_pass_none-parts}
use Rattle.str0m_formats.proofs.round.RoundsWhole.{taken_whole, round_open_before, round_may_begin, claimed_is_locked, round_refused_before}
use Rattle.str0m_formats.proofs.round.RoundsWhole.{round_done}
use Rattle.str0m_formats.proofs.round.RoundsWhole.{round_refused_large}
use Rattle.str0m_formats.proofs.round.rounds.run_round.Goals as goal
use Rattle.str0m_formats.specs.round.Rounds.{StopsFirstPass, in_first}
use Rattle.str0m_formats.specs.row.PayloadParams.{types}

pub returns-in_err-check_types-clause-err : goal.returns-in_err-check_types-clause-err
returns-in_err-check_types-clause-err g c =
    first_pass_IfErr_from c.from_residual.result c.in_err-check_types.field-0.0 _ (search rules)
    (round_refused_large c.args.rows.now c.args.remote.now c.args.receives c.in_err-check_types.field-0.0 c.in_err-check_types.ensures.err)

pub claims_of-requires : goal.claims_of-requires
claims_of-requires g c = (first_pass_none-parts (nat_lt 127) (types c.args.rows.now) (types c.args.remote.now)
    c.in_ok-check_types.ensures.ok).0

pub returns-in_err-claims-clause-err : goal.returns-in_err-claims-clause-err
returns-in_err-claims-clause-err g c =
    first_pass_IfErr_from c.from_residual-in_err-claims.result c.in_err-claims.field-0.0 _ (search rules)
    (round_refused_before c.args.rows.now c.args.remote.now c.args.receives c.in_err-claims.field-0.0 c.in_ok-check_types.ensures.ok
    c.in_err-claims.ensures.err)

pub lock_rows-requires-clause-may : goal.lock_rows-requires-clause-may
lock_rows-requires-clause-may g c = round_may_begin c.args.rows.now c.args.remote.now (g.C.Claimed.holds c.in_ok-claims.claims.claimed)
    c.in_ok-check_types.ensures.ok c.in_ok-claims.ensures.claimed

pub lock_rows-requires-clause-claimed : goal.lock_rows-requires-clause-claimed
lock_rows-requires-clause-claimed g c = claimed_is_locked c.args.rows.now (g.C.Claimed.holds c.in_ok-claims.claims.claimed)
    c.in_ok-claims.ensures.claimed

pub returns-in_err-lock_rows-clause-err : goal.returns-in_err-lock_rows-clause-err
returns-in_err-lock_rows-clause-err g c =
    let Stops : Bool → Type 0 = λ b. StopsFirstPass c.args.rows.now c.args.remote.now b c.in_err-lock_rows.field-0.0 in
    first_pass_IfErr_from c.from_residual-in_err-lock_rows.result c.in_err-lock_rows.field-0.0 _ (search rules)
    (in_first c.in_err-lock_rows.field-0.0 (subst Stops c.in_ok-claims.ensures.receives c.in_err-lock_rows.ensures.err))

pub settle_rows-requires-clause-open : goal.settle_rows-requires-clause-open
settle_rows-requires-clause-open g c =
    round_open_before c.args.rows.now c.args.remote.now c.in_ok-claims.claims.receives c.lock_rows.new.rows
    (g.C.Claimed.holds c.lock_rows.new.self.unlocked) c.in_ok-lock_rows.ensures.ok c.lock_rows.auto.rows
    c.in_ok-lock_rows.ensures.unlocked

pub settle_rows-requires-clause-claimed : goal.settle_rows-requires-clause-claimed
settle_rows-requires-clause-claimed g c =
    c.in_ok-lock_rows.ensures.claimed ∙ taken_whole c.args.rows.now c.args.remote.now c.in_ok-claims.claims.receives c.lock_rows.new.rows
    c.in_ok-lock_rows.ensures.ok c.lock_rows.auto.rows

pub returns : goal.returns
returns g c =
    let done =
    round_done c.args.rows.now c.args.remote.now c.args.receives c.in_ok-claims.claims.receives c.lock_rows.new.rows c.settle_rows.new.rows
    (g.C.Claimed.holds c.in_ok-claims.claims.claimed) (g.C.Claimed.holds c.lock_rows.new.self.unlocked) c.settle_rows.result
    c.in_ok-check_types.ensures.ok c.in_ok-claims.ensures.claimed c.in_ok-claims.ensures.receives c.in_ok-lock_rows.ensures.ok
    c.lock_rows.auto.rows c.in_ok-lock_rows.ensures.unlocked c.settle_rows.ensures.ok c.settle_rows.auto.rows c.settle_rows.ensures.err
    in
    record { ok = done.0; err = done.1 }
