use Rattle.str0m_formats.proofs.Common.{Ok, Err, sym, ap, rules, ◌+◌, fun_ext}
use Rattle.str0m_formats.proofs.round.ClaimSteps.{claims_locked, claims_open, unlocked_locked, claim_unlocked_open, claims_refused}
use Rattle.str0m_formats.proofs.round.ClaimedSets.{claimed_slice_get_item}
use Rattle.str0m_formats.proofs.round.FirstPass.{first_pass_IfErr_from, row_types_small_at}
use Rattle.str0m_formats.proofs.round.beginning.claims_of.Goals as goal
use Rattle.str0m_formats.proofs.round.beginning.claims_of.Goals.{then-row+in_ok-claim_row, else-row}
use Rattle.str0m_formats.specs.round.Claims.{claim_each}

pub loop-row-init : goal.loop-row-init
unfolding claim_each
loop-row-init g c = (ap (λ s. Ok s) (sym (fun_ext c.none_claimed-claimed.ensures)), fun_ext c.none_claimed-unlocked.ensures)

pub claim_row-requires : goal.claim_row-requires
claim_row-requires g c = row_types_small_at c.args.rows.now c.loop-row.row-index c.row-item.result c.requires
    (claimed_slice_get_item c.args.rows.now c.loop-row.row-index c.row-item.result c.loop-row-test.true c.row-item.is)

pub returns-in_err-claim_row-clause-err : goal.returns-in_err-claim_row-clause-err
returns-in_err-claim_row-clause-err g c =
    first_pass_IfErr_from c.from_residual.result c.in_err-claim_row.field-0.0 _ (search rules)
    (claims_refused c.args.rows.now (c.loop-row.row-index + 1) c.in_err-claim_row.field-0.0
    (claims_locked c.args.rows.now c.loop-row.row-index c.row-item.result (g.C.Claimed.holds c.loop-row.claimed)
    (Err c.in_err-claim_row.field-0.0) c.loop-row-test.true c.row-item.is c.if-row.true c.loop-row.invariant.0
    c.in_err-claim_row.ensures.err))

pub insert_row-requires : goal.insert_row-requires
insert_row-requires g c = row_types_small_at c.args.rows.now c.loop-row.row-index c.row-item.result c.requires
    (claimed_slice_get_item c.args.rows.now c.loop-row.row-index c.row-item.result c.loop-row-test.true c.row-item.is)

pub loop-row-preserved : goal.loop-row-preserved
loop-row-preserved g c =
    let rows = c.args.rows.now in
    let i = c.loop-row.row-index in
    let row = c.row-item.result in
    elim c.if-row.branch [
      | then-row+in_ok-claim_row w ↦ (
        claims_locked rows i row (g.C.Claimed.holds c.loop-row.claimed) (Ok (g.C.Claimed.holds c.if-row.claimed)) c.loop-row-test.true
            c.row-item.is w.if-row.true c.loop-row.invariant.0 (rw w.claimed-is w.in_ok-claim_row.ensures.ok),
        unlocked_locked rows i row (g.C.Claimed.holds c.if-row.unlocked) c.loop-row-test.true c.row-item.is w.if-row.true
            (rw w.unlocked-is c.loop-row.invariant.1),
      )
      | else-row w ↦ (
        claims_open rows i row (g.C.Claimed.holds c.if-row.claimed) c.loop-row-test.true c.row-item.is w.if-row.false
            (rw w.claimed-is c.loop-row.invariant.0),
        claim_unlocked_open rows i row (g.C.Claimed.holds c.loop-row.unlocked) (g.C.Claimed.holds c.if-row.unlocked) c.loop-row-test.true
            c.row-item.is w.if-row.false c.loop-row.invariant.1 (rw w.unlocked-is w.insert_row.ensures),
      )
    ]
