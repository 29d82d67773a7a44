use Rattle.exchange.proofs.answer.RowLaws.{answered_rows_say, answered_rows_stand, answers_once}
use Rattle.exchange.proofs.answer.RowTypes.{answer_apart}
use Rattle.exchange.proofs.answer.RowsPlain.{all_plain}
use Rattle.exchange.proofs.answer.rows.rows_for.Goals as goal

pub returns-clause-offered : goal.returns-clause-offered
returns-clause-offered c =
    answered_rows_say c.args.config.now.params.items c.args.section.now c.in_ok-rows.rows.items
    (rw c.params.ensures at c.in_ok-rows.ensures)

pub returns-clause-distinct : goal.returns-clause-distinct
returns-clause-distinct c =
    answers_once c.args.config.now.params.items c.args.section.now c.in_ok-rows.rows.items (rw c.params.ensures at c.in_ok-rows.ensures)

pub returns-clause-complete : goal.returns-clause-complete
returns-clause-complete c =
    answered_rows_stand c.args.config.now.params.items c.args.section.now c.in_ok-rows.rows.items
    (rw c.params.ensures at c.in_ok-rows.ensures)

pub returns-clause-apart : goal.returns-clause-apart
returns-clause-apart c =
    answer_apart c.args.config.now.params.items c.args.section.now c.in_ok-rows.rows.items (rw c.params.ensures at c.in_ok-rows.ensures)

pub returns-clause-plain : goal.returns-clause-plain
returns-clause-plain c =
    all_plain c.args.config.now.params.items c.args.section.now c.in_ok-rows.rows.items (rw c.params.ensures at c.in_ok-rows.ensures)
