use Rattle.str0m_formats.proofs.Common.{nat_lt, sym, ◌∙◌, refl, find-append}
use Rattle.str0m_formats.proofs.round.beginning.check_types.Goals as goal
use Rattle.str0m_formats.specs.row.PayloadParams.{types}

pub returns-in-None-clause-ok : goal.returns-in-None-clause-ok
returns-in-None-clause-ok c =
    find-append (nat_lt 127) (types c.args.rows.now) (types c.args.remote.now)
    ∙ rw (← c.first_large_claim.ensures) (rw (← c.first_large_claim-2.ensures) (sym c.or.ensures ∙ c.in-None.is))

pub returns-in-Some-clause-err : goal.returns-in-Some-clause-err
returns-in-Some-clause-err c = (
  c.in-Some.pt,
  find-append (nat_lt 127) (types c.args.rows.now) (types c.args.remote.now)
      ∙ rw (← c.first_large_claim.ensures) (rw (← c.first_large_claim-2.ensures) (sym c.or.ensures ∙ c.in-Some.is)),
  refl,
)
