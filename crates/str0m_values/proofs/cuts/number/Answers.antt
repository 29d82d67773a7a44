use Rattle.str0m_values.proofs.CutsNearLaws.{cuts_written_fits}
use Rattle.str0m_values.proofs.CutsNumLaws.{cuts_parsed_ok, cuts_parsed_err}
use Rattle.str0m_values.proofs.cuts.number.Goals as goal

pub returns-then-number-limit-clause-value : goal.returns-then-number-limit-clause-value
returns-then-number-limit-clause-value c = cuts_written_fits c.args.limit c.args.text.now c.in-Some.number
    (rw c.as_bytes.ensures.value at c.in-Some.ensures) c.if-number-limit.true

pub returns-in-Ok-clause-value : goal.returns-in-Ok-clause-value
returns-in-Ok-clause-value c = cuts_parsed_ok 64 c.args.limit c.args.text.now c.in-Ok.number c.in-Ok.ensures.value.0
    c.if-number-limit-2.true

pub returns-in_default-2-clause-value : goal.returns-in_default-2-clause-value
returns-in_default-2-clause-value c = cuts_parsed_err 64 c.args.limit c.args.text.now c.in_default.ensures.value.0 c.ranges.limit.fits
