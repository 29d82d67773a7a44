use Rattle.str0m_formats.proofs.Common.{◌≡◌, Bool, Result, Ok, sym, ap, ◌∙◌, subst, arith, get_or, nat_lt, option_copied}
use Rattle.str0m_formats.proofs.round.FirstPass.{first_step, first_stops, next_row, row_types_small_at, choice_types_small}
use Rattle.str0m_formats.proofs.round.FirstPass.{first_pass_none-parts}
use Rattle.str0m_formats.proofs.round.FirstPass.{first_pass_IfErr_from}
use Rattle.str0m_formats.proofs.round.claims.Claims.lock_rows.Goals as goal
use Rattle.str0m_formats.specs.declared.round.negotiation_error.NegotiationError.{NegotiationError}
use Rattle.str0m_formats.specs.round.Choices.{IsChoice, choice_points_for}
use Rattle.str0m_formats.specs.round.Rounds.{then_in_round, placed}
use Rattle.str0m_formats.specs.row.PayloadParams.{types}

pub place-requires-clause-row : goal.place-requires-clause-row
place-requires-clause-row g c =
    row_types_small_at c.args.rows.now c.loop-row.row-index _
    (first_pass_none-parts (nat_lt 127) (types c.args.rows.now) (types c.args.remote.now) c.requires.may.small).0
    (next_row _ _ _ c.loop-row.rows c.loop-row.row-index _ _ (get_or c.loop-row.rows c.loop-row.row-index c.row-item.result)
    c.loop-row.invariant.0 (omega arith) (ap (get_or c.loop-row.rows c.loop-row.row-index) c.row-item.is))

pub place-requires-clause-choice : goal.place-requires-clause-choice
place-requires-clause-choice g c =
    choice_types_small (choice_points_for (g.C.Claimed.holds c.loop-row.self.claimed) c.loop-row.self.receives
    (get_or c.loop-row.rows c.loop-row.row-index c.row-item.result)) c.args.remote.now (option_copied c.choice-choice.result)
    c.choice-choice.ensures (first_pass_none-parts (nat_lt 127) (types c.args.rows.now) (types c.args.remote.now) c.requires.may.small).1

pub returns-in_err-place-clause-err : goal.returns-in_err-place-clause-err
returns-in_err-place-clause-err g c = grind (arith, first_pass_IfErr_from, first_stops)

pub loop-row-preserved : goal.loop-row-preserved
loop-row-preserved g c =
    let rows = c.loop-row.rows in
    let i = c.loop-row.row-index in
    let row = get_or rows i c.row-item.result in
    let claimed = g.C.Claimed.holds c.loop-row.self.claimed in
    let unlocked = g.C.Claimed.holds c.loop-row.self.unlocked in
    let Choice : Bool → Type 0 = λ b. IsChoice (choice_points_for claimed b row) c.args.remote.now (option_copied c.choice-choice.result) in
    let Placed : Bool → Type 0 = λ b. placed claimed unlocked b row (option_copied c.choice-choice.result) ≡ Ok c.place.new.row in (
      first_step c.args.rows.now c.args.remote.now c.args.self.now.receives rows i claimed unlocked
          (g.C.Claimed.holds c.place.new.self.claimed) (g.C.Claimed.holds c.place.new.self.unlocked) row c.place.new.row
          (option_copied c.choice-choice.result)
          c.loop-row.invariant.0 (omega arith) (ap (get_or rows i) c.row-item.is)
          (subst Choice c.loop-row.invariant.1 c.choice-choice.ensures)
          (subst Placed c.loop-row.invariant.1 (sym c.place.ensures.value
          ∙ ap (λ (r : Result (Unit {0}) NegotiationError). then_in_round r (λ u. Ok c.place.new.row)) c.in_ok-place.was))
          c.in_ok-place.ensures.claimed (ap g.C.Claimed.holds c.place.ensures.unlocked),
      c.place.ensures.receives ∙ c.loop-row.invariant.1,
    )
