use Rattle.str0m_formats.proofs.Common.{Result, Ok, sym, ap, ◌∙◌, rules, arith, get_or, take}
use Rattle.str0m_formats.proofs.round.FirstPass.{first_pass_IfErr_from}
use Rattle.str0m_formats.proofs.round.SettlingPass.{settling_second_step, settling_second_stops, second_row, settling_serves_now}
use Rattle.str0m_formats.proofs.round.claims.Claims.settle_rows.Goals as goal
use Rattle.str0m_formats.specs.declared.round.negotiation_error.NegotiationError.{NegotiationError}
use Rattle.str0m_formats.specs.round.Claimed.{TypeSet, has}
use Rattle.str0m_formats.specs.round.Rounds.{then_in_round, types_taken_after}
use Rattle.str0m_formats.specs.row.PayloadParams.{locked_types}

pub settle-requires : goal.settle-requires
settle-requires g c = λ open_row t h.
    let rows = c.loop-row.rows in
    let i = c.loop-row.row-index in
    let row = get_or rows i c.row-item.result in
    ap (λ set. set t) c.loop-row.invariant.unlocked_is
    ∙ c.requires.open i row (second_row _ c.args.rows.now rows i _ _ row c.loop-row.invariant (omega arith)
    (ap (get_or rows i) c.row-item.is)) open_row t h

pub returns-in_err-settle-clause-err : goal.returns-in_err-settle-clause-err
returns-in_err-settle-clause-err g c =
    let rows = c.loop-row.rows in
    let i = c.loop-row.row-index in
    let row = get_or rows i c.row-item.result in
    let claimed : TypeSet = g.C.Claimed.holds c.loop-row.self.claimed in
    let unlocked : TypeSet = g.C.Claimed.holds c.loop-row.self.unlocked in
    let serves = settling_serves_now _ c.args.rows.now rows i claimed unlocked c.loop-row.invariant in
    first_pass_IfErr_from c.from_residual.result c.in_err-settle.field-0.0 _ (search rules)
    (settling_second_stops _ c.args.rows.now rows i claimed unlocked row c.in_err-settle.field-0.0
    c.loop-row.invariant (omega arith) (ap (get_or rows i) c.row-item.is)
    (sym (c.settle.ensures.value (has (locked_types c.args.rows.now)) (types_taken_after c.args.rows.now (take i rows)) serves)
    ∙ ap (λ (r : Result (Unit {0}) NegotiationError). then_in_round r (λ u. Ok c.settle.new.row)) c.in_err-settle.was))

pub loop-row-preserved : goal.loop-row-preserved
loop-row-preserved g c =
    let rows = c.loop-row.rows in
    let i = c.loop-row.row-index in
    let row = get_or rows i c.row-item.result in
    let claimed : TypeSet = g.C.Claimed.holds c.loop-row.self.claimed in
    let unlocked : TypeSet = g.C.Claimed.holds c.loop-row.self.unlocked in
    let locked : TypeSet = has (locked_types c.args.rows.now) in
    let taken : TypeSet = types_taken_after c.args.rows.now (take i rows) in
    let serves = settling_serves_now _ c.args.rows.now rows i claimed unlocked c.loop-row.invariant in
    settling_second_step _ c.args.rows.now rows i claimed unlocked _ _ row c.settle.new.row
    c.loop-row.invariant (omega arith) (ap (get_or rows i) c.row-item.is)
    (sym (c.settle.ensures.value locked taken serves)
    ∙ ap (λ (r : Result (Unit {0}) NegotiationError). then_in_round r (λ u. Ok c.settle.new.row)) c.in_ok-settle.was)
    (c.in_ok-settle.ensures.claimed locked taken serves) (ap g.C.Claimed.holds c.settle.ensures.unlocked)
